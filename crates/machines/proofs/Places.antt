-- What the places of a request come to, by its kind.
-- Assumes nothing.
use Rattle.std.specs.Prelude.{◌≡◌, ◌||◌, ◌+◌, ◌-◌, ◌≤◌}
use Rattle.laws.specs.Basics.{refl, sym, ◌∙◌, ap, subst, true, false, List, ℕ, arith, ltb, length, take, sets, ltb-false}
use Rattle.laws.specs.Truth.{or_none}
use borrow.Rule.Slice.PartMut.{mid_of, put_mid, mid_len, take_put, drop_put, same_len_mid}
use Rattle.machines.specs.{Machines.Stop, Packed.packed, Forms.goes_on_of, Forms.request_of_def, Forms.Placed, Forms.Around, Forms.Leaves, Forms.GoesTo, Forms.from, Forms.Comes, Forms.Fits, Forms.Obeys}
use Rattle.machines.specs.declared.{Source.Source, Obeyed.Obeyed}
use Rattle.machines.specs.declared.Answer as answers
use Rattle.machines.specs.declared.Request as requests
use Rattle.machines.specs.declared.Request.TheVariants as request

pub around_put : (at most : ℕ) (input last : List ℕ) → at + most ≤ length input → length last ≡ length (mid_of at (at + most - at) input)
    → Around at most input (put_mid at (at + most - at) input last)
unfolding Around
around_put at most input last h e = (
  same_len_mid at (at + most - at) input last e,
  take_put at (at + most - at) input last (omega (arith, h)),
  drop_put at (at + most) input last (omega arith) h (e ∙ mid_len at (at + most) input h),
)

pub last_most : (at most : ℕ) (input last : List ℕ) → at + most ≤ length input → length last ≡ length (mid_of at (at + most - at) input) → length last ≡ most
last_most at most input last h e = e ∙ mid_len at (at + most) input h ∙ omega arith

-- Three lists are long enough, by the test.
pub long_enough : (a x b y c z : ℕ) → ltb a x || (ltb b y || ltb c z) ≡ false → (x ≤ a) × (y ≤ b) × (z ≤ c)
long_enough a x b y c z e =
    let (first, rest) = or_none (ltb a x) (ltb b y || ltb c z) e in
    let (second, third) = or_none (ltb b y) (ltb c z) rest in
    (ltb-false a x first, ltb-false b y second, ltb-false c z third)

-- Where the kind of a request is known.
module _ (r kind : requests.Request) (e : r ≡ kind) where
  pub placed_as : (input out : ℕ) → Placed r input out → Placed kind input out
  placed_as input out h = subst (λ (x : requests.Request). Placed x input out) e h

  pub fits_as : (a : answers.Answer) → Fits kind a → Fits r a
  fits_as a h = subst (λ (x : requests.Request). Fits x a) (sym e) h

  pub comes_as : (source : Source) (came : Obeyed) → Comes kind source came → Comes r source came
  comes_as source came h = subst (λ (x : requests.Request). Comes x source came) (sym e) h

  pub leaves_as : (before after : List ℕ) → Leaves kind before after → Leaves r before after
  leaves_as before after h = subst (λ (x : requests.Request). Leaves x before after) (sym e) h

  -- An answer that fits, with the source as it was.
  pub obeys_as : (source : Source) (before after : List ℕ) (a : answers.Answer) (came : Obeyed) → came ≡ from source a → Leaves kind before after → Fits kind a
      → Obeys r source before after came
  obeys_as source before after a came is leaves fits = record {
    leaves = leaves_as before after leaves;
    comes = comes_as source came (subst (λ (x : Obeyed). Comes kind source x) (sym is) (fits source));
  }

  pub packs_as : (before after : List ℕ) → after ≡ sets before 0 (packed kind) → after ≡ sets before 0 (packed r)
  packs_as before after h = h ∙ ap (λ (x : requests.Request). sets before 0 (packed x)) (sym e)

-- A form that goes on stands for no `Stop`, and one that does not for nothing else.
pub going_is : (r : requests.Request) (out : List ℕ) → goes_on_of r ≡ true → request_of_def r out ≡ Stop → ⊥
unfolding goes_on_of request_of_def
going_is request.Count out e f = let z : ◌≡◌ {A = ℕ} 0 1 = cc in omega arith
going_is (request.Argument i at most) out e f = let z : ◌≡◌ {A = ℕ} 0 1 = cc in omega arith
going_is (request.Open size) out e f = let z : ◌≡◌ {A = ℕ} 0 1 = cc in omega arith
going_is (request.Read at most) out e f = let z : ◌≡◌ {A = ℕ} 0 1 = cc in omega arith
going_is (request.Write size) out e f = let z : ◌≡◌ {A = ℕ} 0 1 = cc in omega arith
going_is (request.Say size) out e f = let z : ◌≡◌ {A = ℕ} 0 1 = cc in omega arith
going_is (request.Fail size) out e f = let z : ◌≡◌ {A = ℕ} 0 1 = cc in omega arith
going_is request.Stop out e f = let z : ◌≡◌ {A = ℕ} 0 1 = cc in omega arith

pub stopped_is : (r : requests.Request) (out : List ℕ) → goes_on_of r ≡ false → request_of_def r out ≡ Stop
unfolding goes_on_of request_of_def
stopped_is request.Count out e = cc
stopped_is (request.Argument i at most) out e = cc
stopped_is (request.Open size) out e = cc
stopped_is (request.Read at most) out e = cc
stopped_is (request.Write size) out e = cc
stopped_is (request.Say size) out e = cc
stopped_is (request.Fail size) out e = cc
stopped_is request.Stop out e = refl

-- What stands before the place that bytes go to is as it was.
around_front : (at most place : ℕ) (before after : List ℕ) → at ≡ place → Around at most before after → (take place after ≡ take place before) × (length after ≡ length before)
unfolding Around
around_front at most place before after e h = (ap (λ (k : ℕ). take k after) (sym e) ∙ h.1 ∙ ap (λ (k : ℕ). take k before) e, h.0)

same_front : (place : ℕ) (before after : List ℕ) → after ≡ before → (take place after ≡ take place before) × (length after ≡ length before)
same_front place before after e = (ap (take place) e, ap length e)

pub leaves_front : (r : requests.Request) (place : ℕ) (before after : List ℕ) → GoesTo r place → Leaves r before after → (take place after ≡ take place before) × (length after ≡ length before)
unfolding GoesTo Leaves
leaves_front request.Count place before after g h = same_front place before after h
leaves_front (request.Argument i at most) place before after g h = around_front at most place before after g h
leaves_front (request.Open size) place before after g h = same_front place before after h
leaves_front (request.Read at most) place before after g h = around_front at most place before after g h
leaves_front (request.Write size) place before after g h = same_front place before after h
leaves_front (request.Say size) place before after g h = same_front place before after h
leaves_front (request.Fail size) place before after g h = same_front place before after h
leaves_front request.Stop place before after g h = same_front place before after h
