-- A call is made with the lists that are lent for it, and its line is at the front of the buffer.
-- Assumes nothing.
use Rattle.std.specs.Prelude.{◌≡◌, ◌∷◌, ◌-◌, ◌*◌, ◌≤◌}
use Rattle.listing.specs.Lines.{number_said}
use Rattle.laws.specs.Basics.{refl, ◌∙◌, ap, Bool, List, [], Option, None, Some, ℕ, zero, suc, arith, length, take, replicate, length-replicate, pick, by_bool}
use lib.Seq.{length-sets}
use Rattle.model.specs.declared.Run.{Run}
use Rattle.model.specs.Refusals.{number}
use Rattle.whole_runs.specs.Calls.{Answered}
use Rattle.admissions.proofs.Room.{twice_square}
use Rattle.listing.specs.Printed.{Printed}
use Rattle.machines.proofs.{Leading.never, programs.Texts.front_text}
use Rattle.words.specs.Layout.{run_of}
use Rattle.machine_console.specs.{declared.script.Call.Call, declared.calls.Replied.Replied, Text.answer_text, Text.line_text, Text.tail_text, Text.call_text}
use Rattle.machine_console.specs.declared.script.Read.TheVariants.{Ended, LeftOver, Malformed, Asks}
use Rattle.machine_console.specs.{script.Script.call_of, script.Script.asked, script.Script.next_of, Replied.reply_of, Replied.Replies, Replied.Makes}
use Rattle.machine_console.specs.Made.{processes, lent, lent_line, lent_pairs, made_with, made_on}

-- The lent lists are no longer than those for 16 processes.
pub few : (s : Run) → processes s ≤ 16
unfolding processes
few s = omega arith

pub lent_length : (short : Bool) (size : ℕ) → length (lent short size) ≤ size
unfolding lent
lent_length short size = by_bool short
    (λ e. rw e (omega (arith, length-replicate {A = ℕ} (size - 1) 0)))
    (λ e. rw e (omega (arith, length-replicate {A = ℕ} size 0)))

pub pairs_few : (s : Run) (c : Call) (pairs : List ℕ) → pairs ≡ lent_pairs s c → length pairs ≤ 512
pairs_few s c pairs e = omega (arith, ap (λ (l : List ℕ). length l) e, lent_length c.short (2 * processes s * processes s), twice_square (processes s) (few s))

pub line_few : (s : Run) (c : Call) (line : List ℕ) → line ≡ lent_line s c → length line ≤ 16
line_few s c line e = omega (arith, ap (λ (l : List ℕ). length l) e, lent_length c.short (processes s), few s)

-- The front of zeros is zeros.
zeros_front : (k n : ℕ) → k ≤ n → take k (replicate {A = ℕ} n 0) ≡ replicate k 0
zeros_front zero n h = refl
zeros_front (suc k) zero h = absurd (omega (arith, h))
zeros_front (suc k) (suc n) h = ap (λ (l : List ℕ). 0 ∷ l) (zeros_front k n (omega (arith, h)))

pub lent_is : (short : Bool) (size most k : ℕ) → size ≤ most → k ≡ pick short (size - 1) size → take k (replicate {A = ℕ} most 0) ≡ lent short size
unfolding lent
lent_is short size most k h e = ap (λ (j : ℕ). take j (replicate {A = ℕ} most 0)) e ∙ zeros_front (pick short (size - 1) size) most (by_bool short (λ b. rw b (omega (arith, h))) (λ b. rw b (omega (arith, h))))

-- What is written of a call is its line.
pub makes : (s : Run) (k : ℕ) (c : Call) (n : ℕ) (w' out out' pairs line pairs' line' : List ℕ) (r : Replied) (size : ℕ)
    → n ≡ processes s → pairs ≡ lent_pairs s c → line ≡ lent_line s c
    → Replies c.operation (made_with c.operation s c pairs line) w' r pairs' line'
    → Printed out 0 (line_text k (number_said r.summary.refused) (answer_text c.operation c.caller n (reply_of r pairs' line'))) out' size → size ≤ length out
    → Makes s k (Some c) w' out' size
unfolding made_on call_text tail_text
makes s k c n w' out out' pairs line pairs' line' r size many ps ls replies printed inside =
    let same : made_with c.operation s c pairs line ≡ made_with c.operation s c (lent_pairs s c) (lent_line s c) = λ j. made_with c.operation s c (ps j) (ls j) in
    record {
      run = replies.run ∙ ap (λ (a : Answered). a.run) same;
      line =
          front_text out _ out' size printed inside
          ∙ (λ j. line_text k (replies.refused j) (replies.answer c.caller n j))
          ∙ (λ j. line_text k (same j).reply.report.refused (answer_text c.operation c.caller (many j) (same j).reply));
      inside = omega (arith, inside, ap (λ (l : List ℕ). length l) printed.holds, length-sets out 0 (line_text k (number_said r.summary.refused) (answer_text c.operation c.caller n (reply_of r pairs' line'))));
    }

-- What is no call is refused.
pub makes_none : (k : ℕ) (w out out' : List ℕ) (o : Option Call) (size : ℕ) → o ≡ None → Printed out 0 (line_text k 14 []) out' size → size ≤ length out → Makes (run_of w) k o w out' size
unfolding made_on call_text tail_text number
makes_none k w out out' o size e printed inside = rw e (record {
  run = refl;
  line = front_text out (line_text k 14 []) out' size printed inside;
  inside = omega (arith, inside, ap (λ (l : List ℕ). length l) printed.holds, length-sets out 0 (line_text k 14 []));
})

-- What eight bytes are.
pub never_ended : {P : Type 0} (o : Option Call) → asked o ≡ Ended → P
unfolding asked
never_ended None e = never (cc)
never_ended (Some c) e = never (cc)

pub never_left_over : {P : Type 0} (o : Option Call) → asked o ≡ LeftOver → P
unfolding asked
never_left_over None e = never (cc)
never_left_over (Some c) e = never (cc)

pub malformed_none : (o : Option Call) → asked o ≡ Malformed → o ≡ None
unfolding asked
malformed_none None e = refl
malformed_none (Some c) e = cc

pub asks_some : (o : Option Call) (c : Call) → asked o ≡ Asks c → o ≡ Some c
unfolding asked
asks_some None c e = cc
asks_some (Some d) c e = cc

pub eight_is : (bytes : List ℕ) → next_of 8 bytes ≡ asked (call_of bytes)
unfolding next_of
eight_is bytes = refl

pub cut_few : (short : Bool) (size k most : ℕ) → k ≡ pick short (size - 1) size → size ≤ most → k ≤ most
cut_few short size k most e h = by_bool short (λ b. let f = rw b at e in omega (arith, f, h)) (λ b. let f = rw b at e in omega (arith, f, h))
