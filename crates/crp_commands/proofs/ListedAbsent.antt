-- Which list of absent containers is written, and how it ends over files, from how it does over its sources.
use Rattle.std.proofs.Common.{◌≡◌, ◌∙◌, ℕ, List, Result, Ok, Err, MatchResult, ap, inr}
use Rattle.crp_yard.specs.Inventory.{Inventory}
use Rattle.crp_movins.specs.LoadOrders.{LoadOrders}
use Rattle.crp_movins.specs.declared.order.Order.{Order}
use Rattle.crp_order.specs.Absences.{absent_text}
use Rattle.crp_report.specs.declared.status.Status.{Status}
use Rattle.crp_report.specs.Chosen.{InputChosen}
use Rattle.crp_report.specs.Runs.{SourceSeen}
use Rattle.crp_jobs.specs.declared.job.AbsentFiles.{AbsentFiles}
use Rattle.crp_jobs.specs.declared.outcome.ToolFault.{ToolFault}
use Rattle.crp_jobs.specs.Opened.{FilesSeen}
use Rattle.crp_commands.specs.Absent.{AbsentChosen, AbsentSeen, absent_by, AbsentEnds, AbsentFails, AbsentReportsOverFiles, AbsentFailsOverFiles, IsAbsentText, IsOverInput}
use Rattle.crp_commands.specs.Audit.{IsInputOf}
use Rattle.crp_separated.specs.Inputs.{with_separator}

pub is_listed : (chosen : AbsentChosen) (yard movins : SourceSeen) (stands : Inventory) (orders : LoadOrders) (sequence : List (List ℕ)) (list : List Order)
    (made parted text : List ℕ) → IsInputOf chosen.input yard movins stands orders sequence → list ≡ orders.list → made ≡ absent_text stands list
    → parted ≡ with_separator chosen.separator made → text ≡ parted → IsAbsentText chosen yard movins text
is_listed chosen yard movins stands orders sequence list made parted text input same lists parts written =
    (stands, orders, sequence, input, written ∙ parts ∙ ap (with_separator chosen.separator) (lists ∙ ap (absent_text stands) same))

pub over_input : (names : AbsentFiles) (chosen : InputChosen) (files : FilesSeen) (s : AbsentSeen) (answer : Result Status ToolFault) → IsOverInput files names s.out s
    → MatchResult answer (AbsentEnds (absent_by names chosen) s) (AbsentFails (absent_by names chosen) s)
    → MatchResult answer (AbsentReportsOverFiles names chosen files s.out) (AbsentFailsOverFiles names chosen files s.out)
over_input names chosen files s (Ok ended) over is = (s, over, is)
over_input names chosen files s (Err f) over is = inr (s, over, is)
