-- The number and the values of each fault of a shelf.
use Rattle.std.specs.Prelude.{ℕ, Some, None}
use Rattle.table.specs.declared.fault.FaultCode.{FaultCode}
use Rattle.table.specs.Faults.{code_of}
use Rattle.filter.specs.declared.outcome.TransduceFault.{TransduceFault}
use Rattle.filter.specs.declared.outcome.TransduceFault.TheVariants.{Unsound as TableUnsound, LongText as TextTooLong, ShortOutput}
use Rattle.answers.specs.declared.fault.Fault.{Fault}
use Rattle.answers.specs.declared.fault.Fault.TheVariants.{Misfit, Unsound, NoHolding, Draft, LongText, TooLarge, ShortScratch, Double, Full, TooShort}
use Rattle.answers.specs.declared.fault.Report.{Report}

abbrev pub plain_report : ℕ → ℕ → Report
plain_report n p = record { number = n; place = p; cause = None; inner = None }

-- the report of a fault of the table handed in: what the table's fault says
abbrev draft_report : FaultCode → Report
draft_report c = record { number = c.number; place = c.place; cause = c.cause; inner = None }

abbrev pub report_of : Fault → Report
report_of Misfit = plain_report 1 0
report_of (Unsound n f) = record { number = 1; place = n; cause = None; inner = Some (code_of f) }
report_of (NoHolding n) = plain_report 2 n
report_of (Draft f) = draft_report (code_of f)
report_of LongText = plain_report 3 1
report_of TooLarge = plain_report 12 0
report_of (ShortScratch n) = plain_report 13 n
report_of (Double n) = plain_report 14 n
report_of Full = plain_report 15 0
report_of (TooShort n) = plain_report 16 n

-- a fault of transducing as a fault of the shelf
abbrev pub transducing_fault : TransduceFault → Fault
transducing_fault (TableUnsound f) = Draft f
transducing_fault TextTooLong = LongText
transducing_fault (ShortOutput n) = TooShort n
