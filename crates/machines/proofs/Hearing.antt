-- Answers in their forms, as they are taken.
-- Assumes nothing.
use Rattle.std.specs.Prelude.{◌≡◌, ◌&&◌, ◌+◌, ◌≤◌, ◌<◌}
use Rattle.laws.specs.Basics.{refl, sym, ◌∙◌, ap, true, false, false≢true, List, ℕ, zero, suc, arith, leb, length, take, drop, length-drop, length-take-le, eq-eqb, ne_eqb, le-ltb, le-leb, lt-leb, leb-true, by_bool}
use Rattle.laws.specs.Truth.{and_no_right}
use lib.IntN.{ℤ, pos, negsuc}
use lib.Signed.{lt_z}
use Rattle.std.proofs.Math.Nat.{min-eq_left}
use mir.Syntax.{w32}
use mir.Val.{SFits, of_z}
use Rattle.machines.specs.Machines.{Bytes, Failed, heard_word, heard_read}
use Rattle.machines.specs.Forms.{answer_of, taken_of, Between, read_answer, word_answer, from, open_answer, clamp_len}
use Rattle.machines.specs.declared.Source.{Source}
use Rattle.machines.specs.declared.Answer as answers
use Rattle.machines.specs.declared.Answer.TheVariants as answer
use Rattle.machines.specs.declared.heard.Taken as takens
use Rattle.machines.specs.declared.heard.Taken.TheVariants as taken

pub many : (at size : ℕ) (input : List ℕ) → at + size ≤ length input → length (take size (drop at input)) ≡ size
many at size input h = length-take-le size (drop at input) (omega (arith, length-drop at input))

-- The bytes of an answer that lie inside the buffer.
inside : (at size : ℕ) (input : List ℕ) → at + size ≤ length input → answer_of (answer.Bytes size) at input ≡ Bytes (take size (drop at input))
unfolding answer_of
inside at size input h = rw (le-leb (at + size) (length input) h)

-- What `read` answers, and `word`.
abbrev pub ReadAs : answers.Answer → ℕ → takens.Taken → Type 0
ReadAs a most r = ((at : ℕ) (input : List ℕ) → at + most ≤ length input → heard_read most (answer_of a at input) ≡ taken_of r at input) × Between r 1 most

abbrev pub WordAs : answers.Answer → ℕ → takens.Taken → Type 0
WordAs a most r = ((at : ℕ) (input : List ℕ) → at + most ≤ length input → heard_word most (answer_of a at input) ≡ taken_of r at input) × Between r 0 most

-- Bytes that are taken for none.
read_none : (most at size : ℕ) (input : List ℕ) → (length (take size (drop at input)) ≡ size → leb 1 (length (take size (drop at input))) && leb (length (take size (drop at input))) most ≡ false)
    → heard_read most (answer_of (answer.Bytes size) at input) ≡ Failed
unfolding heard_read answer_of
read_none most at size input h = by_bool (leb (at + size) (length input)) (λ e. rw (e, h (many at size input (leb-true _ _ e)))) (λ e. rw e)

word_none : (most at size : ℕ) (input : List ℕ) → most < size → heard_word most (answer_of (answer.Bytes size) at input) ≡ Failed
unfolding heard_word answer_of
word_none most at size input h =
    by_bool (leb (at + size) (length input)) (λ e. rw (e, many at size input (leb-true _ _ e), lt-leb size most h)) (λ e. rw e)

-- Bytes, by the tests of the code.
module _ (a : answers.Answer) (most size : ℕ) (e : a ≡ answer.Bytes size) where
  pub read_few : size < 1 → ReadAs a most taken.Failed
  unfolding taken_of Between
  read_few few = (λ at input h. rw e (read_none most at size input (λ k. rw (k, lt-leb 1 size few))), tt)

  pub read_many : most < size → ReadAs a most taken.Failed
  unfolding taken_of Between
  read_many more = (λ at input h. rw e (read_none most at size input (λ k. rw k (and_no_right (leb 1 size) (leb size most) (lt-leb size most more)))), tt)

  pub read_some : 1 ≤ size → size ≤ most → ReadAs a most (taken.Brought size)
  unfolding heard_read taken_of Between
  read_some least fits = (
    λ at input h. rw (e, inside at size input (omega (arith, h, fits)), many at size input (omega (arith, h, fits)), le-leb 1 size least, le-leb size most fits),
    (least, fits),
  )

  pub word_many : most < size → WordAs a most taken.Failed
  unfolding taken_of Between
  word_many more = (λ at input h. rw e (word_none most at size input more), tt)

  pub word_some : size ≤ most → WordAs a most (taken.Brought size)
  unfolding heard_word taken_of Between
  word_some fits = (λ at input h. rw (e, inside at size input (omega (arith, h, fits)), many at size input (omega (arith, h, fits)), le-leb size most fits), (omega arith, fits))

-- The system's own numbers, by the tests of the code.
pub read_below : (z got : ℤ) (size : ℕ) → z ≡ got → lt_z z (pos 0) ≡ true → answer.Failed ≡ read_answer got size
unfolding read_answer
read_below z (pos k) size e h = absurd (false≢true (sym (ap (λ (x : ℤ). lt_z x (pos 0)) e ∙ le-ltb k 0 (omega arith)) ∙ h))
read_below z (negsuc k) size e h = refl

pub read_nothing : (z got : ℤ) (size : ℕ) → z ≡ got → lt_z z (pos 0) ≡ false → size ≡ 0 → answer.End ≡ read_answer got size
unfolding read_answer
read_nothing z (pos k) size e h n = rw (eq-eqb size 0 n)
read_nothing z (negsuc k) size e h n = absurd (false≢true (sym h ∙ ap (λ (x : ℤ). lt_z x (pos 0)) e))

pub read_bytes : (z got : ℤ) (size : ℕ) → z ≡ got → lt_z z (pos 0) ≡ false → (size ≡ 0 → ⊥) → answer.Bytes size ≡ read_answer got size
unfolding read_answer
read_bytes z (pos k) size e h n = rw (ne_eqb size 0 n)
read_bytes z (negsuc k) size e h n = absurd (false≢true (sym h ∙ ap (λ (x : ℤ). lt_z x (pos 0)) e))

pub word_whole : (error : ℤ) (size : ℕ) → SFits w32 error → of_z w32 error ≡ 0 → answer.Bytes size ≡ word_answer error size
unfolding word_answer
word_whole (pos zero) size f e = refl
word_whole (pos (suc k)) size f e = absurd (omega (arith, e))
word_whole (negsuc k) size f e = absurd (omega (arith, e, f.sfits))

pub word_error : (error : ℤ) (size : ℕ) → (of_z w32 error ≡ 0 → ⊥) → answer.Failed ≡ word_answer error size
unfolding word_answer
word_error (pos zero) size n = absurd (n refl)
word_error (pos (suc k)) size n = refl
word_error (negsuc k) size n = refl

pub open_below : (z opened : ℤ) (source : Source) → z ≡ opened → lt_z z (pos 0) ≡ true → from source answer.Failed ≡ open_answer opened source
unfolding open_answer
open_below z (pos k) source e h = absurd (false≢true (sym (ap (λ (x : ℤ). lt_z x (pos 0)) e ∙ le-ltb k 0 (omega arith)) ∙ h))
open_below z (negsuc k) source e h = refl

pub open_done : (z opened : ℤ) (source : Source) → z ≡ opened → lt_z z (pos 0) ≡ false → from (record { 0 = z }) answer.Done ≡ open_answer opened source
unfolding open_answer
open_done z (pos k) source e h = ap (λ (x : ℤ). from (record { 0 = x }) answer.Done) e
open_done z (negsuc k) source e h = absurd (false≢true (sym h ∙ ap (λ (x : ℤ). lt_z x (pos 0)) e))

-- A read, by the number that the system returned.
pub read_came : (a : answers.Answer) (got : ℤ) (size room most : ℕ) → a ≡ read_answer got size → size ≡ clamp_len got room → room ≡ most → (z : ℤ) × (a ≡ read_answer z (clamp_len z most))
read_came a got size room most is counts whole = (got, is ∙ ap (read_answer got) (counts ∙ ap (λ (k : ℕ). clamp_len got k) whole))

-- A read that brought bytes, no more than there is room for: the number is how many.
pub read_brought : (a : answers.Answer) (z : ℤ) (size most : ℕ) → a ≡ read_answer z size → z ≡ pos size → size ≤ most → (got : ℤ) × (a ≡ read_answer got (clamp_len got most))
read_brought a z size most is e fits =
    (pos size, is ∙ ap (λ (x : ℤ). read_answer x size) e ∙ ap (read_answer (pos size)) (sym (min-eq_left fits)))
