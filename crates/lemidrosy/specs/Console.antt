-- For C: the answer to a list as one number. Its fields are those of every call's: the value says how many checkpoints are listed.
-- Assumes nothing.
use Rattle.laws.specs.Basics.{ℕ}
use Rattle.listing.specs.answers.Codes.{coded}
use Rattle.theory_roles.specs.Console.{ListAnswer}
use Rattle.theory_roles.specs.Console.{list_report}

abbrev pub list_code : ListAnswer → ℕ
list_code a = coded (list_report a) 0
