-- The verdict that an answer of filing is.
use Rattle.std.specs.Prelude.{ℕ, List, ◌++◌, Ok, Err, Result, codes}
use Rattle.std.specs.Fmt.{decimal}
use Rattle.answers.specs.declared.fault.Fault.{Fault}
use Rattle.answers.specs.declared.fault.Fault.TheVariants.{Misfit, Unsound, NoHolding, Draft, LongText, TooLarge, ShortScratch, Double, Full, TooShort}
use Rattle.answers.specs.Reports.{report_of}
use Rattle.shelving.specs.declared.report.Verdict.{Verdict}
use Rattle.shelving.specs.declared.report.Verdict.TheVariants.{Filed, Twin, Refused}

-- a double is a twin; any other fault is a refusal
abbrev pub verdict_of_fault : Fault → Verdict
verdict_of_fault (Double n) = Twin n
verdict_of_fault Misfit = Refused Misfit
verdict_of_fault (Unsound n f) = Refused (Unsound n f)
verdict_of_fault (NoHolding n) = Refused (NoHolding n)
verdict_of_fault (Draft f) = Refused (Draft f)
verdict_of_fault LongText = Refused LongText
verdict_of_fault TooLarge = Refused TooLarge
verdict_of_fault (ShortScratch n) = Refused (ShortScratch n)
verdict_of_fault Full = Refused Full
verdict_of_fault (TooShort n) = Refused (TooShort n)

abbrev pub verdict_of_lem : Result ℕ Fault → Verdict
verdict_of_lem (Ok n) = Filed n
verdict_of_lem (Err f) = verdict_of_fault f

-- a verdict as it is printed: a refusal by the number of its fault
abbrev pub verdict_text : Verdict → List ℕ
verdict_text (Filed n) = codes "filed " ++ decimal n
verdict_text (Twin n) = codes "twin " ++ decimal n
verdict_text (Refused f) = codes "refused " ++ decimal (report_of f).number
