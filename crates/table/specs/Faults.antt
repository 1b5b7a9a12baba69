-- The number and the values of each fault of a table.
use Rattle.std.specs.Prelude.{ℕ, List, ◌∷◌, ◌++◌, Some, None, Option}
use Rattle.std.specs.Fmt.{decimal}
use Rattle.alphabet.specs.declared.cause.Cause.{Cause}
use Rattle.table.specs.declared.fault.FaultCode.{FaultCode}
use Rattle.table.specs.declared.fault.TableFault.{TableFault}
use Rattle.table.specs.declared.fault.TableFault.TheVariants.{Limits, BadState, MissingState, UnsoundGuard, LongOutput, OutputCount, NotConstant, UnsoundOutput, Overlap}

abbrev code : ℕ → ℕ → Option Cause → FaultCode
code n p c = record { number = n; place = p; cause = c }

abbrev pub code_of : TableFault → FaultCode
code_of Limits = code 3 0 None
code_of (BadState q) = code 4 q None
code_of (MissingState i) = code 5 i None
code_of (UnsoundGuard i c) = code 6 i (Some c)
code_of (LongOutput i) = code 7 i None
code_of OutputCount = code 8 0 None
code_of (NotConstant k) = code 9 k None
code_of (UnsoundOutput k c) = code 10 k (Some c)
code_of (Overlap i) = code 11 i None

-- a code as it is printed: the number, a space, the place
abbrev pub code_text : FaultCode → List ℕ
code_text c = decimal c.number ++ (32 ∷ decimal c.place)
