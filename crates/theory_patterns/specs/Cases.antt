-- A table of traces, for Note 7 of document 02: what each is judged to be, by the number and the pair of its verdict. proofs/Cases has the theorem.
-- Assumes nothing.
use Rattle.std.specs.Prelude.{◌&&◌, ◌∷◌}
use Rattle.laws.specs.Basics.{Bool, true, false, List, [], Option, None, Some, ℕ, eqb, replicate}
use Rattle.laws.specs.Tests.{every}
use Rattle.theory_patterns.specs.Verdicts.{Pair, judge_report, verdict}

-- A trace, the number that it meets, 0 for none, and the pair that breaks it, if one does.
pub record JudgeCase : Type 0 where
  pub trace : List ℕ
  pub meets : ℕ
  pub breaks : Option Pair

unfoldable pub same_pair : Option Pair → Option Pair → Bool
same_pair None None = true
same_pair None (Some y) = false
same_pair (Some x) None = false
same_pair (Some x) (Some y) = eqb x.near y.near && eqb x.near_index y.near_index && eqb x.far y.far && eqb x.far_index y.far_index

unfoldable pub case_right : JudgeCase → Bool
case_right c =
    let r = judge_report (verdict c.trace) in
    eqb r.refused c.meets && same_pair r.pair c.breaks

unfoldable pub judge_cases : List JudgeCase
judge_cases =
    -- one message, received: its zigzag path is causal
    record { trace = 2 ∷ 0x20 ∷ 0 ∷ 0 ∷ 1 ∷ 0x40 ∷ 0 ∷ 0 ∷ 1 ∷ 2 ∷ 0 ∷ 0 ∷ 0 ∷ []; meets = 0; breaks = None }
    -- process 1 sends 1 and then receives 2 in the same interval: from checkpoint 1 of process 0 a path goes by 2 and 1 back to it
    ∷ record {
      trace = 2 ∷ 0x22 ∷ 0 ∷ 0 ∷ 0 ∷ 0x40 ∷ 0 ∷ 0 ∷ 1 ∷ 0 ∷ 0 ∷ 0 ∷ 0 ∷ 0x20 ∷ 0 ∷ 0 ∷ 1 ∷ 0x40 ∷ 0 ∷ 0 ∷ 2 ∷ [];
      meets = 0;
      breaks = Some (record { near = 0; near_index = 1; far = 0; far_index = 1 });
    }
    -- the same with a checkpoint of process 1 between the two: no path goes on
    ∷ record {
      trace = 2 ∷ 0x22 ∷ 0 ∷ 0 ∷ 0 ∷ 0x40 ∷ 0 ∷ 0 ∷ 1 ∷ 0 ∷ 0 ∷ 0 ∷ 0 ∷ 2 ∷ 0 ∷ 0 ∷ 0 ∷ 0x20 ∷ 0 ∷ 0 ∷ 1 ∷ 0x40 ∷ 0 ∷ 0 ∷ 2 ∷ [];
      meets = 0;
      breaks = None;
    }
    -- the same with 1 lost in place of delivered: a lost message is on no path
    ∷ record {
      trace = 2 ∷ 0x22 ∷ 0 ∷ 0 ∷ 0 ∷ 0x60 ∷ 0 ∷ 0 ∷ 1 ∷ 0 ∷ 0 ∷ 0 ∷ 0 ∷ 0x20 ∷ 0 ∷ 0 ∷ 1 ∷ 0x40 ∷ 0 ∷ 0 ∷ 2 ∷ [];
      meets = 0;
      breaks = None;
    }
    -- a live far end: process 1 sends 1 to process 2, then receives 2 from process 0
    ∷ record {
      trace = 3 ∷ 0x22 ∷ 0 ∷ 0 ∷ 2 ∷ 0x40 ∷ 0 ∷ 0 ∷ 1 ∷ 0x20 ∷ 0 ∷ 0 ∷ 1 ∷ 0x40 ∷ 0 ∷ 0 ∷ 2 ∷ [];
      meets = 0;
      breaks = Some (record { near = 0; near_index = 0; far = 2; far_index = 1 });
    }
    -- 1:1 1:1 breaks too, and its far end comes before 2:1: the near end is judged first
    ∷ record {
      trace = 3 ∷ 0x22 ∷ 0 ∷ 0 ∷ 2 ∷ 0x40 ∷ 0 ∷ 0 ∷ 1 ∷ 0x20 ∷ 0 ∷ 0 ∷ 1 ∷ 0x40 ∷ 0 ∷ 0 ∷ 2 ∷ 2 ∷ 0 ∷ 0 ∷ 0 ∷ 0x22 ∷ 0 ∷ 0 ∷ 0 ∷ 0x40 ∷ 0 ∷ 0 ∷ 3 ∷ [];
      meets = 0;
      breaks = Some (record { near = 0; near_index = 0; far = 2; far_index = 1 });
    }
    -- 12, 1, 13 after the last record, 14 for kind 4 and for a field that must be zero, 4, 5, 8, and 17 before 14
    ∷ record { trace = []; meets = 12; breaks = None }
    ∷ record { trace = 0 ∷ []; meets = 1; breaks = None }
    ∷ record { trace = 17 ∷ []; meets = 1; breaks = None }
    ∷ record { trace = 2 ∷ 0 ∷ 0 ∷ 0 ∷ 0 ∷ 7 ∷ []; meets = 13; breaks = None }
    ∷ record { trace = 2 ∷ 0x80 ∷ 0 ∷ 0 ∷ 1 ∷ 7 ∷ []; meets = 14; breaks = None }
    ∷ record { trace = 2 ∷ 0 ∷ 0 ∷ 0 ∷ 1 ∷ []; meets = 14; breaks = None }
    ∷ record { trace = 2 ∷ 4 ∷ 0 ∷ 0 ∷ 0 ∷ []; meets = 4; breaks = None }
    ∷ record { trace = 2 ∷ 0x20 ∷ 0 ∷ 0 ∷ 0 ∷ []; meets = 5; breaks = None }
    ∷ record { trace = 2 ∷ 0x40 ∷ 0 ∷ 0 ∷ 1 ∷ []; meets = 8; breaks = None }
    ∷ record { trace = 2 ∷ replicate 16388 0x80; meets = 17; breaks = None }
    ∷ []

unfoldable pub cases_right : Bool
cases_right = every case_right judge_cases
