-- Which state an answer leads to, by what the code was handed of it.
-- Assumes nothing.
use Rattle.std.specs.Prelude.{◌≡◌, ◌+◌, ◌-◌, ◌≤◌}
use Rattle.laws.specs.Basics.{sym, ◌∙◌, ap, subst, List, ℕ, arith, length, get_or, take, drop, length-take-le}
use lib.Seq.{get_or-take, get_or-drop}
use Rattle.machines.specs.Machines.{heard, heard_read, stepped}
use Rattle.machines.specs.Forms.{answer_of, taken_of}
use Rattle.machine_console.specs.{Lent.between_of, Lent.Arrives}
use Rattle.machine_console.specs.Consoling.{Between, State, Reading, ask, next, after_read_of, consoling}
use Rattle.machine_console.specs.declared.marks.Marks.{Marks}
use Rattle.machines.specs.declared.Answer as answers
use Rattle.machines.specs.declared.heard.Taken as takens

pub led : {m : Marks} {words input out : List ℕ} {s t : State} → t ≡ s → Arrives m words input out s → Arrives m words input out t
led {m} {words} {input} {out} e w = subst (λ (x : State). Arrives m words input out x) (sym e) w

-- The first byte.
pub first_byte : (k at : ℕ) (l : List ℕ) → 1 ≤ k → get_or (take k (drop at l)) 0 0 ≡ get_or l at 0
first_byte k at l h = get_or-take k (drop at l) 0 0 h ∙ get_or-drop at l 0 0 ∙ ap (λ (j : ℕ). get_or l j 0) {x = at + 0} {y = at} (omega arith)

-- Bytes of a call.
module _ (m : Marks) (words input : List ℕ) (a : answers.Answer) (r : takens.Taken) (inside : m.kept ≤ length input)
    (h : heard_read (8 - m.kept) (answer_of a m.kept input) ≡ taken_of r m.kept input) where
  abbrev b : Between
  b = between_of m words input

  pub heard_read_lem : stepped consoling (Reading b) (answer_of a m.kept input) ≡ after_read_of b (taken_of r m.kept input)
  unfolding stepped ask heard next
  heard_read_lem = ap (λ (k : ℕ). after_read_of b (heard_read (8 - k) (answer_of a m.kept input))) (length-take-le m.kept input inside) ∙ ap (after_read_of b) h
