-- What `fill` returns and leaves, put together from its parts.
-- Assumes nothing.
use Rattle.std.specs.Prelude.{◌≡◌, ◌&&◌, ◌≤◌}
use Rattle.laws.specs.Basics.{refl, sym, ◌∙◌, ap, Bool, true, false, false≢true, List, ℕ, arith, length, le-leb, pick, by_bool}
use Rattle.laws.specs.Loops.{iter}
use Rattle.model.specs.Shapes.{Pin}
use Rattle.model.specs.{declared.Interval.Interval, declared.Checkpoint.Checkpoint, declared.Run.Run, Sound.sound, Words.blank, laws.Sound.sound_state}
use Rattle.words.specs.{Layout.word, Layout.decoded, Layout.fits, Layout.run_of, Puts.puts}
use Rattle.words.proofs.Reading.{touched}
use Rattle.library_calls.specs.run_words.Fits.{kept_fits, rows_fit_of, messages_fit_of, fits_words}
use Rattle.library_calls.specs.run_words.Filled.{kept_filled, rows_filled, messages_filled, number_puts, filled, FilledFrom}
use Rattle.library_calls.proofs.{run_words.Sizes.Sized, run_words.Holding.all_holds, run_words.ReadBack.read_back, run_words.SoundFits.sound_fits}

-- A state that does not fit its words is not sound.
pub unfit_unsound : (s : Run) → Sized s → fits_words s ≡ false → false ≡ sound s
unfit_unsound s size unfit = by_bool (sound s) (λ e. absurd (false≢true (sym unfit ∙ sound_fits s e size))) (λ e. sym e)

-- Words whose count is 0 stand for no sound state.
count_none : (v : List ℕ) → word v 0 ≡ 0 → (run_of v).count ≡ 0
unfolding run_of decoded blank
count_none v zero = by_bool (fits v) (λ e. rw e zero) (λ e. rw e refl)

none_sound : (v : List ℕ) → word v 0 ≡ 0 → sound (run_of v) ≡ false
none_sound v zero = by_bool (sound (run_of v))
    (λ e. let some = (sound_state (run_of v) e).count_some in let none = count_none v zero in absurd (omega (arith, some, none)))
    (λ e. e)

-- What is left of a count is no more than it.
pub count_most : (b : Bool) (r n most : ℕ) → r ≡ pick b n 0 → n ≤ most → r ≤ most
count_most true r n most e h = omega (arith, e, h)
count_most false r n most e h = omega (arith, e)

module _ (s : Run) (w : List ℕ) (size : Sized s) (long : length w ≡ 6464) (few : s.count ≤ 16) (most : s.underway ≤ 64) where
  words_are : (a b d v : List ℕ) → a ≡ iter 256 (kept_filled s.kept.0 s.kept_count) w
      → b ≡ iter 16 (rows_filled s.count s.vectors.0 s.pins.0 s.kept_count s.sent) a
      → d ≡ iter 64 (messages_filled s.underway s.messages) b → v ≡ puts d (number_puts s.count s.underway s.last s.disk) → v ≡ filled s w
  unfolding filled
  words_are a b d v e f g h = rw (h, g, f, e)

  judged_is : (x y z : Bool) → x ≡ kept_fits s.kept.0 s.kept_count → y ≡ rows_fit_of s.count s.vectors.0 s.pins.0 s.kept_count s.sent
      → z ≡ messages_fit_of s.underway s.messages → (x && y && z) ≡ fits_words s
  unfolding fits_words
  judged_is x y z e f g = rw (le-leb s.count 16 few, le-leb s.underway 64 most, e, f, g)

  -- The count is the state's where it fits, else 0.
  pub fill_ends : (kept : List (List Checkpoint)) (vectors : List (List Interval)) (pins : List (List Pin)) (a b d v : List ℕ) (x y z : Bool) (count : ℕ)
      → kept ≡ s.kept.0 → vectors ≡ s.vectors.0 → pins ≡ s.pins.0
      → x ≡ kept_fits kept s.kept_count → a ≡ iter 256 (kept_filled kept s.kept_count) w
      → y ≡ rows_fit_of s.count vectors pins s.kept_count s.sent → b ≡ iter 16 (rows_filled s.count vectors pins s.kept_count s.sent) a
      → z ≡ messages_fit_of s.underway s.messages → d ≡ iter 64 (messages_filled s.underway s.messages) b
      → count ≡ pick (x && y && z) s.count 0 → v ≡ puts d (number_puts count s.underway s.last s.disk) → length d ≡ 6464 → FilledFrom s v
  fill_ends kept vectors pins a b d v x y z count k p q ex ea ey eb ez ed ec ev size_is =
      let judged = judged_is x y z (rw k at ex) (rw (p, q) at ey) ez in
      let counted : (m : ℕ) → count ≡ m → v ≡ puts d (number_puts m s.underway s.last s.disk)
      = λ m e. ev ∙ ap (λ (m : ℕ). puts d (number_puts m s.underway s.last s.disk)) e in
      by_bool (x && y && z)
      (λ e.
      let words = words_are a b d v (rw k at ea) (rw (p, q) at eb) ed (counted s.count (rw e at ec)) in
      let is : run_of v ≡ s = ap run_of words ∙ read_back (filled s w) s (all_holds s w long) size (sym judged ∙ e) in
      (ap sound is, λ t. is))
      (λ e.
      let no = unfit_unsound s size (sym judged ∙ e) in
      let zero = touched d (number_puts 0 s.underway s.last s.disk) 0 0 0 (omega (arith, size_is)) in
      (none_sound v (ap (λ (u : List ℕ). word u 0) (counted 0 (rw e at ec)) ∙ zero) ∙ no, λ t. absurd (false≢true (no ∙ t))))
