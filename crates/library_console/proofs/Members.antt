-- The caller's members of a line: the call on a list of 16 entries answers as that on the lent one, and what is then written of it.
-- Assumes nothing.
use Rattle.std.specs.Prelude.{◌≡◌, ◌≤◌, ◌<◌, Err, Ok}
use Rattle.laws.specs.Basics.{refl, sym, ◌∙◌, ap, Bool, true, List, [], Option, None, Some, ℕ, arith, ltb, length, get_or, replicate, sets, lt-ltb, le-ltb, ltb-true, ltb-false, pick, by_bool}
use Rattle.laws.specs.{Below.below_written, Choice.pick_same, Lists.table, Loops.set_below, Loops.below_at, Loops.below_above, Loops.below_length}
use Rattle.laws.specs.Tables.{table_is}
use Prim.{tt}
use Rattle.model.specs.Shapes.{LineAnswer}
use Rattle.model.specs.declared.{Run.Run, Refusal.Refusal}
use Rattle.model.specs.{Sound.sound, Steps.line_of, Steps.member, Refusals.first_of, Refusals.line_refusal, laws.Sound.sound_state}
use Rattle.whole_runs.specs.Outcomes.{Outcome, judged, line_outcome}
use Rattle.whole_runs.proofs.Unsound.{line_unsound}
use Rattle.theory_roles.specs.declared.Caller.{Caller}
use Rattle.theory_roles.specs.Console.{entitled, shown}
use Rattle.theory_roles.proofs.Shown.{shown_same}

-- By the refusal, if there is one.
answered_none : (o : Option Refusal) → ◌≡◌ {A = LineAnswer} (Ok tt) (judged o (λ r. Err r) (Ok tt)) → o ≡ None
answered_none None e = refl
answered_none (Some r) e = cc

answered_some : (o : Option Refusal) (r : Refusal) → ◌≡◌ {A = LineAnswer} (Err r) (judged o (λ w. Err w) (Ok tt)) → o ≡ Some r
answered_some None r e = cc
answered_some (Some w) r e = cc

-- A list with the first n places written one by one, of those that pass: what is written of them all, at those places.
module _ (n : ℕ) (t : ℕ → Bool) (m : ℕ → ℕ) (whole lent : List ℕ) (long : n ≤ length whole) (long' : n ≤ length lent) where
  front : (l : List ℕ) → n ≤ length l → (p : ℕ) → p < n → get_or (sets l 0 (table n m)) p 0 ≡ m p
  front l h p lt = ap (λ (v : List ℕ). get_or v p 0) (sym (below_written n m l)) ∙ below_at m l n p 0 lt (omega arith)

  beyond : (p : ℕ) → n ≤ p → get_or (sets lent 0 (table n m)) p 0 ≡ get_or lent p 0
  beyond p le = ap (λ (v : List ℕ). get_or v p 0) (sym (below_written n m lent)) ∙ below_above m lent n p 0 le

  abbrev written_at : ℕ → ℕ
  written_at p = pick (t p) (get_or (sets whole 0 (table n m)) p 0) (get_or lent p 0)

  seen_places : set_below n written_at lent ≡ table (length lent) (λ p. pick (t p) (get_or (sets lent 0 (table n m)) p 0) (get_or lent p 0))
  seen_places = table_is 0 (set_below n written_at lent) (length lent) _ (below_length written_at lent n)
      (λ p lt. by_bool (ltb p n)
      (λ e.
      let below = ltb-true p n e in
      below_at written_at lent n p 0 below lt ∙ ap (λ (x : ℕ). pick (t p) x (get_or lent p 0)) (front whole long p below ∙ sym (front lent long' p below)))
      (λ e.
      let past = ltb-false p n e in
      below_above written_at lent n p 0 past ∙ sym (ap (λ (x : ℕ). pick (t p) x (get_or lent p 0)) (beyond p past) ∙ pick_same (t p) (get_or lent p 0))))

-- The outcome of a line call, refused and accepted.
abbrev refusing : Run → List ℕ → Refusal → Outcome LineAnswer
refusing s l r = record { run = s; answer = Err r; rose = 0; deleted = []; line = l }

abbrev writing : Run → ℕ → List ℕ → Outcome LineAnswer
writing s F l = record { run = s; answer = Ok tt; rose = 0; deleted = []; line = sets l 0 (line_of s F) }

-- A lent list that is too short is as it was.
pub short_line_lem : (c : Caller) (s : Run) (F : ℕ) (lent : List ℕ) → length lent < s.count → (line_outcome s F lent).line ≡ shown c s.count lent (line_outcome s F lent).line
unfolding line_outcome line_refusal first_of
short_line_lem c s F lent short = by_bool (sound s)
    (λ h. rw (h, lt-ltb _ _ short) (sym (shown_same c s.count lent)))
    (λ h. rw h (sym (shown_same c s.count lent)))

module _ (c : Caller) (s : Run) (F : ℕ) (lent : List ℕ) (long : s.count ≤ length lent) where
  -- The list of the console's own: the same refusal.
  abbrev own_list : List ℕ
  own_list = replicate 16 0

  same_refusal : line_refusal s F own_list ≡ line_refusal s F lent
  unfolding line_refusal first_of
  same_refusal = by_bool (sound s)
      (λ h. rw (h, le-ltb (length lent) s.count long, le-ltb (length own_list) s.count (sound_state s h).count_most))
      (λ h. rw h)

  -- The answer, by the refusal.
  as_judged : (l : List ℕ) → (line_outcome s F l).answer ≡ judged (line_refusal s F l) (λ w. Err w) (Ok tt)
  unfolding line_outcome
  as_judged l = judged_answer (line_refusal s F l)
    where
      judged_answer : (o : Option Refusal) → (judged {A = Outcome LineAnswer} o (refusing s l) (writing s F l)).answer ≡ judged o (λ w. Err w) (Ok tt)
      judged_answer None = refl
      judged_answer (Some r) = refl

  -- Refused: the answer is the same, and the lent list as it was.
  pub line_refused : (r : Refusal) → Err r ≡ (line_outcome s F own_list).answer
      → (Err r ≡ (line_outcome s F lent).answer) × (lent ≡ shown c s.count lent (line_outcome s F lent).line)
  unfolding line_outcome
  line_refused r e = rw (sym same_refusal ∙ answered_some (line_refusal s F own_list) r (e ∙ as_judged own_list)) (refl, sym (shown_same c s.count lent))

  pub written_sound : (Ok tt) ≡ (line_outcome s F own_list).answer → sound s ≡ true
  written_sound e = by_bool (sound s) (λ h. h) (λ h. let refused = e ∙ sym (line_unsound s h F own_list).1.0 in cc)

  -- Written: the same answer, and the caller's members.
  pub line_written : (whole out : List ℕ) → Ok tt ≡ (line_outcome s F own_list).answer → whole ≡ (line_outcome s F own_list).line
      → out ≡ set_below s.count (λ p. pick (entitled c s.count p) (get_or whole p 0) (get_or lent p 0)) lent
      → (Ok tt ≡ (line_outcome s F lent).answer) × (out ≡ shown c s.count lent (line_outcome s F lent).line)
  unfolding line_outcome shown line_of
  line_written whole out e w o =
      let here = answered_none (line_refusal s F own_list) (e ∙ as_judged own_list) in
      let most = (sound_state s (written_sound e)).count_most in
      rw (sym same_refusal ∙ here) (
        refl,
        o
            ∙ ap (λ (v : List ℕ). set_below s.count (λ p. pick (entitled c s.count p) (get_or v p 0) (get_or lent p 0)) lent) (rw here at w)
            ∙ seen_places s.count (entitled c s.count) (λ p. (member s F p).index.0) own_list lent most long,
      )
