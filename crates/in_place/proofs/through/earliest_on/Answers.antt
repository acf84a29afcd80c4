-- `in_place::through::earliest_on` meets its contract: its tests in their order, then the line. Assumes nothing.
use Rattle.std.specs.Prelude.{◌≡◌, ◌||◌, ◌*◌, ◌≤◌}
use Rattle.laws.specs.Basics.{refl, sym, ◌∙◌, ap, false, ℕ, arith, eqb, ltb, leb, length, rules, ltb-false}
use Rattle.laws.specs.Search.{any_below}
use Rattle.whole_runs.specs.Earliest.{some_absent, unfit}
use Rattle.words.specs.Layout.{count_of}
use Rattle.words.proofs.ViewSound.{sound_words}
use Rattle.words_line.specs.Through.{process_of, named_in, twice_in}
use Rattle.words_line.proofs.Reaching.{pairs_fit, absent_is, unfit_is}
use Rattle.in_place.proofs.Reached.{refused, reach_short, reach_absent, reach_unfit, same_run}
use Rattle.in_place.proofs.through.earliest_on.Goals as goal

pub bounds-w-0 : goal.bounds-w-0
bounds-w-0 c =
    omega (arith, (sound_words c.args.w.now c.requires).size)

pub overflow_cast-n : goal.overflow_cast-n
overflow_cast-n c =
    omega (arith, c.shared_slice_known-3-1.given 0)

pub returns-then-short : goal.returns-then-short
unfolding refused
returns-then-short c =
    rw (reach_short c.args.w.now c.requires c.args.named.now c.args.line.now (sym c.is_line_short-short.ensures ∙ c.if-short.true)) (record { w_value = refl; value = refl; line_after = refl })

pub names_absent-absent-requires : goal.names_absent-absent-requires
names_absent-absent-requires c =
    let pairs_in : 2 * c.pair_count-m.result ≤ length c.args.named.now = omega (arith, c.pair_count-m.ensures, pairs_fit (length c.args.named.now)) in
    (pairs_in, (sound_words c.args.w.now c.requires).few)

pub returns-then-absent : goal.returns-then-absent
unfolding refused
returns-then-absent c =
    let long : let a = c.args in ltb (length a.line.now) (count_of a.w.now) ≡ false = sym c.is_line_short-short.ensures ∙ c.if-short.false in
    let absent : let a = c.args in c.names_absent-absent.result ≡ some_absent (count_of a.w.now) (named_in a.named.now) = let a = c.args in c.names_absent-absent.ensures
    ∙ ap (λ (m : ℕ). any_below m (λ k. leb (count_of a.w.now) (process_of a.named.now k))) c.pair_count-m.ensures
    ∙ sym (absent_is a.named.now (count_of a.w.now)) in
    rw (reach_absent c.args.w.now c.requires c.args.named.now c.args.line.now long (sym absent ∙ c.if-absent.true)) (record { w_value = refl; value = refl; line_after = refl })

pub is_unfit-unfit-requires : goal.is_unfit-unfit-requires
is_unfit-unfit-requires c =
    let pairs_in : 2 * c.pair_count-m.result ≤ length c.args.named.now = omega (arith, c.pair_count-m.ensures, pairs_fit (length c.args.named.now)) in
    pairs_in

pub returns-then-unfit : goal.returns-then-unfit
unfolding refused
returns-then-unfit c =
    let long : let a = c.args in ltb (length a.line.now) (count_of a.w.now) ≡ false = sym c.is_line_short-short.ensures ∙ c.if-short.false in
    let absent : let a = c.args in c.names_absent-absent.result ≡ some_absent (count_of a.w.now) (named_in a.named.now) = let a = c.args in c.names_absent-absent.ensures
    ∙ ap (λ (m : ℕ). any_below m (λ k. leb (count_of a.w.now) (process_of a.named.now k))) c.pair_count-m.ensures
    ∙ sym (absent_is a.named.now (count_of a.w.now)) in
    let unfits : let a = c.args in c.is_unfit-unfit.result ≡ unfit (count_of a.w.now) (named_in a.named.now) = let a = c.args in c.is_unfit-unfit.ensures
    ∙ ap (λ (m : ℕ). eqb m 0 || ltb (count_of a.w.now) m || twice_in a.named.now m) c.pair_count-m.ensures
    ∙ sym (unfit_is a.named.now (count_of a.w.now)) in
    rw (reach_unfit c.args.w.now c.requires c.args.named.now c.args.line.now long (sym absent ∙ c.if-absent.false) (sym unfits ∙ c.if-unfit.true)) (record { w_value = refl; value = refl; line_after = refl })

pub line_through-requires : goal.line_through-requires
line_through-requires c =
    let long : let a = c.args in ltb (length a.line.now) (count_of a.w.now) ≡ false = sym c.is_line_short-short.ensures ∙ c.if-short.false in
    let absent : let a = c.args in c.names_absent-absent.result ≡ some_absent (count_of a.w.now) (named_in a.named.now) = let a = c.args in c.names_absent-absent.ensures
    ∙ ap (λ (m : ℕ). any_below m (λ k. leb (count_of a.w.now) (process_of a.named.now k))) c.pair_count-m.ensures
    ∙ sym (absent_is a.named.now (count_of a.w.now)) in
    let unfits : let a = c.args in c.is_unfit-unfit.result ≡ unfit (count_of a.w.now) (named_in a.named.now) = let a = c.args in c.is_unfit-unfit.ensures
    ∙ ap (λ (m : ℕ). eqb m 0 || ltb (count_of a.w.now) m || twice_in a.named.now m) c.pair_count-m.ensures
    ∙ sym (unfit_is a.named.now (count_of a.w.now)) in
    record {
      w_value = (c.requires, refl, ltb-false (length c.args.line.now) (count_of c.args.w.now) long, c.pair_count-m.ensures);
      named_value = (
        sym absent ∙ c.if-absent.false,
        sym unfits ∙ c.if-unfit.false,
      );
    }

pub returns : goal.returns
returns c =
    record { w_value = same_run _ _ _; value = c.line_through.ensures.value; line_after = c.line_through.ensures.line_after }
