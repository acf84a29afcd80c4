-- The earliest call: what its outcome is, by its tests in their order.
-- Assumes nothing.
use Rattle.std.specs.Prelude.{◌≡◌, ◌||◌, ◌*◌, ◌≤◌, Err, Ok}
use Rattle.laws.specs.Basics.{refl, sym, ◌∙◌, ap, true, false, not, List, [], Option, None, Some, ℕ, arith, eqb, ltb, leb, length, sets, le-ltb, ltb-false}
use Rattle.laws.specs.{Lists.table, Search.any_below, Tests.some_of, Truth.or_none}
use Prim.{tt}
use Rattle.model.specs.Shapes.{LineAnswer}
use Rattle.model.specs.declared.{Refusal.Refusal, Named.Named, Run.Run}
use Rattle.model.specs.declared.Refusal.TheVariants.{ListTooShort, NoSuchProcess, UnfitNamedList, NotKept, CausallyOrdered}
use Rattle.model.specs.{Sound.sound, laws.Refusals.refusal_in}
use Rattle.whole_runs.specs.Outcomes.{Outcome, judged}
use Rattle.whole_runs.specs.Earliest.{earliest_line, some_absent, unfit, not_kept, some_ordered, earliest_refusal, earliest_outcome}
use Rattle.words.specs.Layout.{count_of, run_of}
use Rattle.words.proofs.{View.count_is_lem, ViewSound.sound_fits, ViewSound.sound_few}
use Rattle.words_line.specs.declared.through.Starts.{Starts}
use Rattle.words_line.specs.Through.{pair_count_of, process_of, index_of_def, named_in, twice_in, starts_in, before_some, greatest_in, Present, Searched, InWords}
use Rattle.words_line.proofs.Reaching.{pairs_fit, absent_is, unfit_is, all_present, all_searched, kept_is, all_in_words, ordered_is, line_is}

module _ (w : List ℕ) (h : sound (run_of w) ≡ true) (l line : List ℕ) where
  abbrev s : Run
  s = run_of w

  count : s.count ≡ count_of w
  count = count_is_lem w (sound_fits w h)

  unfoldable pub refused : Refusal → Outcome LineAnswer
  refused why = record { run = s; answer = Err why; rose = 0; deleted = []; line = line }

  by_refusal : (why : Refusal) → earliest_refusal s (named_in l) line ≡ Some why → earliest_outcome s (named_in l) line ≡ refused why
  unfolding earliest_outcome refused
  by_refusal why e = rw e

  pub reach_short : ltb (length line) (count_of w) ≡ true → earliest_outcome s (named_in l) line ≡ refused ListTooShort
  unfolding earliest_refusal
  reach_short e = by_refusal ListTooShort (refusal_in _ (Some ListTooShort) (1, (rw h, tt), ap (ltb (length line)) count ∙ e, refl))

  module _ (long : ltb (length line) (count_of w) ≡ false) where
    long_enough : ltb (length line) s.count ≡ false
    long_enough = ap (ltb (length line)) count ∙ long

    pub reach_absent : some_absent (count_of w) (named_in l) ≡ true → earliest_outcome s (named_in l) line ≡ refused NoSuchProcess
    unfolding earliest_refusal
    reach_absent e = by_refusal NoSuchProcess (refusal_in _ (Some NoSuchProcess) (2, (rw h, (long_enough, tt)), rw count e, refl))

    module _ (present : some_absent (count_of w) (named_in l) ≡ false) where
      present_in : some_absent s.count (named_in l) ≡ false
      present_in = rw count present

      pub reach_unfit : unfit (count_of w) (named_in l) ≡ true → earliest_outcome s (named_in l) line ≡ refused UnfitNamedList
      unfolding earliest_refusal
      reach_unfit e = by_refusal UnfitNamedList (refusal_in _ (Some UnfitNamedList) (3, (rw h, (long_enough, (present_in, tt))), rw count e, refl))

      module _ (fit : unfit (count_of w) (named_in l) ≡ false) where
        fit_in : unfit s.count (named_in l) ≡ false
        fit_in = rw count fit

        pub reach_not_kept : some_of (not_kept s) (named_in l) ≡ true → earliest_outcome s (named_in l) line ≡ refused NotKept
        unfolding earliest_refusal
        reach_not_kept e = by_refusal NotKept (refusal_in _ (Some NotKept) (4, (rw h, (long_enough, (present_in, (fit_in, tt)))), e, refl))

        module _ (kept : some_of (not_kept s) (named_in l) ≡ false) where
          pub reach_ordered : some_ordered s (named_in l) ≡ true → earliest_outcome s (named_in l) line ≡ refused CausallyOrdered
          unfolding earliest_refusal
          reach_ordered e = by_refusal CausallyOrdered (refusal_in _ (Some CausallyOrdered) (5, (rw h, (long_enough, (present_in, (fit_in, (kept, tt))))), e, refl))

          pub reach_line : some_ordered s (named_in l) ≡ false
              → earliest_outcome s (named_in l) line ≡ record { run = s; answer = Ok tt; rose = 0; deleted = []; line = sets line 0 (earliest_line s (named_in l)) }
          unfolding earliest_refusal earliest_outcome
          reach_line e =
              let passed : earliest_refusal s (named_in l) line ≡ None = refusal_in _ None (rw h, (long_enough, (present_in, (fit_in, (kept, (e, tt)))))) in
              rw passed

-- It changes no state.
pub same_run : (s : Run) (l : List Named) (line : List ℕ) → s ≡ (earliest_outcome s l line).run
unfolding earliest_outcome
same_run s l line = by_judged (earliest_refusal s l line)
  where
    by_judged : (o : Option Refusal) → s ≡ (judged {A = Outcome LineAnswer} o
        (λ r. record { run = s; answer = Err r; rose = 0; deleted = []; line = line })
        (record { run = s; answer = Ok tt; rose = 0; deleted = []; line = sets line 0 (earliest_line s l) })).run
    by_judged None = refl
    by_judged (Some r) = refl

-- A fit list of m pairs: no more than 16.
pub fit_few : (n : ℕ) (l : List ℕ) → unfit n (named_in l) ≡ false → pair_count_of (length l) ≤ n
fit_few n l e =
    let parts = or_none (eqb (pair_count_of (length l)) 0 || ltb n (pair_count_of (length l))) (twice_in l (pair_count_of (length l))) (sym (unfit_is l n) ∙ e) in
    ltb-false n (pair_count_of (length l)) (or_none (eqb (pair_count_of (length l)) 0) (ltb n (pair_count_of (length l))) parts.0).1

-- The processes that it names are there, pair by pair.
pub all_there : (n : ℕ) (l : List ℕ) → some_absent n (named_in l) ≡ false → any_below (pair_count_of (length l)) (λ k. leb n (process_of l k)) ≡ false
all_there n l e = sym (absent_is l n) ∙ e

-- What words_line finds of a fit list of m pairs, and what the outcome then is.
module _ (w : List ℕ) (h : sound (run_of w) ≡ true) (l line : List ℕ) (m n : ℕ) (pairs : m ≡ pair_count_of (length l)) (same : n ≡ count_of w) (room : n ≤ length line)
    (present : some_absent (count_of w) (named_in l) ≡ false) (fit : unfit (count_of w) (named_in l) ≡ false) where
  long : ltb (length line) (count_of w) ≡ false
  long = le-ltb (length line) (count_of w) (omega arith)

  there : any_below (pair_count_of (length l)) (λ k. leb (count_of w) (process_of l k)) ≡ false
  there = all_there (count_of w) l present

  pub few_pairs : m ≤ 16
  few_pairs = omega (arith, fit_few (count_of w) l fit, sound_few w h)

  pub pairs_in : 2 * m ≤ length l
  pairs_in = omega (arith, pairs_fit (length l))

  pub searched : Searched m l w
  searched k lt = all_searched l w h there k (omega arith)

  pub all_in : Present m l
  all_in k lt = all_present l w h there k (omega arith)

  module _ (f : Starts) (found : f ≡ starts_in w l m) where
    starts_are : f ≡ starts_in w l (pair_count_of (length l))
    starts_are = found ∙ ap (starts_in w l) pairs

    few : pair_count_of (length l) ≤ 16
    few = omega (arith, few_pairs)

    pub missing_out : f.all ≡ false → earliest_outcome (run_of w) (named_in l) line ≡ refused w h l line NotKept
    missing_out e = reach_not_kept w h l line long present fit (kept_is l w h there ∙ ap not (sym (ap (λ (x : Starts). x.all) starts_are) ∙ e))

    module _ (all : f.all ≡ true) where
      every_one : (starts_in w l (pair_count_of (length l))).all ≡ true
      every_one = sym (ap (λ (x : Starts). x.all) starts_are) ∙ all

      kept : some_of (not_kept (run_of w)) (named_in l) ≡ false
      kept = kept_is l w h there ∙ ap not every_one

      pub within : InWords f.starts m
      within k lt = rw starts_are (all_in_words l w h there few every_one k (omega arith))

      ordered_in : any_below m (λ k. before_some w f.starts m (process_of l k) (index_of_def l k)) ≡ some_ordered (run_of w) (named_in l)
      ordered_in = rw (pairs, starts_are) (sym (ordered_is l w h there few every_one))

      pub ordered_out : any_below m (λ k. before_some w f.starts m (process_of l k) (index_of_def l k)) ≡ true → earliest_outcome (run_of w) (named_in l) line ≡ refused w h l line CausallyOrdered
      ordered_out e = reach_ordered w h l line long present fit kept (sym ordered_in ∙ e)

      pub line_out : any_below m (λ k. before_some w f.starts m (process_of l k) (index_of_def l k)) ≡ false
          → earliest_outcome (run_of w) (named_in l) line ≡ record { run = run_of w; answer = Ok tt; rose = 0; deleted = []; line = sets line 0 (table n (λ p. greatest_in w f.starts p m)) }
      line_out e =
          reach_line w h l line long present fit kept (sym ordered_in ∙ e)
          ∙ ap (λ (x : List ℕ). record { run = run_of w; answer = Ok tt; rose = 0; deleted = []; line = sets line 0 x }) (sym line_in)
        where
          line_in : table n (λ p. greatest_in w f.starts p m) ≡ earliest_line (run_of w) (named_in l)
          line_in = rw (pairs, starts_are, same) (line_is l w h there few every_one)
