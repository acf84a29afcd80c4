-- What is shown of words: a line, by the cases of who asks, and the counts, which are refused with 2 or 3 or written.
-- Assumes nothing.
use Rattle.std.specs.Prelude.{◌≡◌, ◌+◌, ◌<◌, Err, Ok, Option, None, Some}
use Rattle.laws.specs.Basics.{refl, sym, ◌∙◌, ap, Bool, true, false, not, List, [], ℕ, arith, ltb, length, sets, pick, by_bool}
use Rattle.laws.specs.{Tables.table_same}
use Rattle.model.specs.declared.{Run.Run, Refusal.TheVariants.Denied, Refusal.TheVariants.UnsoundState, Refusal.TheVariants.ListTooShort}
use Prim.{tt}
use Rattle.model.specs.Shapes.{LineAnswer}
use Rattle.model.specs.{Words.process, Sound.sound, Refusals.first_of}
use Rattle.whole_runs.specs.Outcomes.{Outcome, judged, line_outcome}
use Rattle.words.specs.Layout.{word, run_of}
use Rattle.words.proofs.{View.count_is_lem, View.process_is, View.kept_count_lem, ViewSound.sound_words, ViewSound.sound_part}
use Rattle.library_readers.specs.Written.{words_from}
use Rattle.theory_roles.specs.declared.{Role.Role, Caller.Caller, Operation.TheVariants.Line, Operation.TheVariants.Counts}
use Rattle.theory_roles.specs.Console.{may, denied, denial, shown, console_line, console_counts, counts_refusal, kept_counts}
use Rattle.library_console.specs.Asked.{claim_of, asked, denied_as, line_as, counts_as}
use Rattle.library_console.proofs.Asking.{asked_by}

-- The line of one role: what the table says of it.
module _ (c : Caller) (s : Run) (F : ℕ) (lent : List ℕ) {b : Bool} (e : b ≡ may c.role Line) where
  pub line_denied : not b ≡ true → (Err Denied ≡ (console_line c s F lent).answer) × (lent ≡ (console_line c s F lent).line)
  unfolding console_line denied
  line_denied t = rw (sym (ap not e) ∙ t) (refl, refl)

  pub line_made : not b ≡ false → {a : LineAnswer} {out : List ℕ} → a ≡ (line_outcome s F lent).answer → out ≡ shown c s.count lent (line_outcome s F lent).line
      → (a ≡ (console_line c s F lent).answer) × (out ≡ (console_line c s F lent).line)
  unfolding console_line denied
  line_made t answered wrote = rw (sym (ap not e) ∙ t) (answered, wrote)

-- And by the number of a role. No line changes the run.
line_leaves : (c : Caller) (s : Run) (F : ℕ) (lent : List ℕ) → s ≡ (console_line c s F lent).run
unfolding console_line
line_leaves c s F lent = by_bool (denied c Line) (λ e. rw e) (λ e. rw e)

module _ (role owned : ℕ) (s : Run) (F : ℕ) (lent : List ℕ) {q : Option Role} (e : q ≡ claim_of role) where
  pub line_unknown : q ≡ None → (s ≡ (line_as role owned s F lent).run) × ((Err Denied ≡ (line_as role owned s F lent).answer) × (lent ≡ (line_as role owned s F lent).line))
  unfolding line_as asked
  line_unknown u = rw (sym e ∙ u) (refl, (refl, refl))

  pub line_known : (r : Role) → q ≡ Some r → {a : LineAnswer} {out : List ℕ} → a ≡ (console_line (record { role = r; owned = owned }) s F lent).answer
      → out ≡ (console_line (record { role = r; owned = owned }) s F lent).line
      → (s ≡ (line_as role owned s F lent).run) × ((a ≡ (line_as role owned s F lent).answer) × (out ≡ (line_as role owned s F lent).line))
  unfolding line_as asked
  line_known r u answered wrote = rw (sym e ∙ u) (line_leaves (record { role = r; owned = owned }) s F lent, (answered, wrote))

-- What the counts call answers and leaves.
module _ (role owned : ℕ) (w lent : List ℕ) where
  abbrev s : Run
  s = run_of w

  abbrev pub CountsAre : LineAnswer → List ℕ → Type 0
  CountsAre a l = (s ≡ (counts_as role owned s lent).run) × ((a ≡ (counts_as role owned s lent).answer) × (l ≡ (counts_as role owned s lent).line))

  -- Where it is not denied, whoever asks.
  abbrev counted : Outcome LineAnswer
  counted = judged (counts_refusal s lent)
      (λ r. record { run = s; answer = Err r; rose = 0; deleted = []; line = lent })
      (record { run = s; answer = Ok tt; rose = 0; deleted = []; line = sets lent 0 (kept_counts s) })

  module _ {b : Bool} (e : b ≡ denied_as (claim_of role) owned (λ c. denied c Counts)) where
    counts_by : counts_as role owned s lent ≡ pick b (denial s [] lent) counted
    unfolding counts_as console_counts
    counts_by = asked_by owned (λ c. denied c Counts) (denial s [] lent) counted (claim_of role) e

    pub counts_denied : b ≡ true → CountsAre (Err Denied) lent
    counts_denied t = rw (counts_by, t) (refl, (refl, refl))

    pub counts_unsound : b ≡ false → sound s ≡ false → CountsAre (Err UnsoundState) lent
    unfolding counts_refusal first_of
    counts_unsound t h = rw (counts_by, t, h) (refl, (refl, refl))

    pub counts_short : b ≡ false → sound s ≡ true → ltb (length lent) s.count ≡ true → CountsAre (Err ListTooShort) lent
    unfolding counts_refusal first_of
    counts_short t h short = rw (counts_by, t, h, short) (refl, (refl, refl))

    pub counts_written : b ≡ false → (h : sound s ≡ true) → ltb (length lent) s.count ≡ false → (out : List ℕ) → out ≡ sets lent 0 (words_from w 16 s.count) → CountsAre (Ok tt) out
    unfolding counts_refusal first_of kept_counts
    counts_written t h long out wrote = rw (counts_by, t, h, long) (refl, (refl, wrote ∙ ap (λ (l : List ℕ). sets lent 0 l) (table_same s.count _ _ many)))
      where
        many : (p : ℕ) → p < s.count → word w (16 + p) ≡ length (process s p).kept
        many p lt =
            let known = sound_words w h in
            let below : p < word w 0 = rw (count_is_lem w known.fit) at lt in
            sym (ap (λ x. length x.kept) (process_is w known.fit p below known.few) ∙ kept_count_lem w p (omega (arith, (sound_part w h p below).kept_count_most, known.few)))
