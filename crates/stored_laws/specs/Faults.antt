-- The number and the place of each fault of a stored shelf.
use Rattle.std.specs.Prelude.{ℕ, List, ◌∷◌, ◌++◌, Some, None, Option}
use Rattle.std.specs.Fmt.{decimal}
use Rattle.answers.specs.declared.fault.Fault.{Fault}
use Rattle.answers.specs.Reports.{report_of}
use Rattle.stored_laws.specs.declared.StoredCode.{StoredCode}
use Rattle.stored_laws.specs.declared.StoredFault.{StoredFault}
use Rattle.stored_laws.specs.declared.StoredFault.TheVariants.{TooShort, CutShort, OtherAlphabet, TooManyHoldings, LeftOver, BadByte, Shelf}

abbrev code : ℕ → ℕ → Option Fault → StoredCode
code n p f = record { number = n; place = p; shelf = f }

abbrev pub code_of : StoredFault → StoredCode
code_of (TooShort n) = code 16 n None
code_of (CutShort n) = code 17 n None
code_of OtherAlphabet = code 18 0 None
code_of TooManyHoldings = code 18 1 None
code_of (LeftOver p) = code 19 p None
code_of (BadByte p) = code 20 p None
code_of (Shelf f) = code (report_of f).number (report_of f).place (Some f)

-- a code as it is printed: the number, a space, the place
abbrev pub code_text : StoredCode → List ℕ
code_text c = decimal c.number ++ (32 ∷ decimal c.place)
