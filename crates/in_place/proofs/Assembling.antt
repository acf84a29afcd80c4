-- A state of which every clause of document 01's "A sound state" holds is sound.
-- Assumes nothing.
use Rattle.std.specs.Prelude.{◌≡◌, ◌&&◌, ◌<◌}
use Rattle.laws.specs.Basics.{true, ℕ, eq-eqb, le-leb}
use Rattle.laws.specs.{Search.all_in, Truth.and_both}
use Rattle.model.specs.declared.Run.{Run}
use Rattle.model.specs.Sound.{count_sound, own_sound, vectors_sound, kept_sound, pins_sound, messages_sound, row_unused, unused_sound, disk_sound, sound}
use Rattle.model.specs.laws.Sound.{SoundProcess, SoundState}

module _ (s : Run) (h : SoundState s) where
  count_sound_lem : count_sound s ≡ true
  unfolding count_sound
  count_sound_lem = and_both _ _ (le-leb _ _ h.count_some) (le-leb _ _ h.count_most)

  own_sound_lem : own_sound s ≡ true
  unfolding own_sound
  own_sound_lem = all_in _ _ (λ p lt. le-leb _ _ (h.processes p lt).own_some)

  vectors_sound_lem : vectors_sound s ≡ true
  unfolding vectors_sound
  vectors_sound_lem = and_both _ _ (all_in _ _ (λ p lt. and_both _ _ (h.processes p lt).current_within (h.processes p lt).stored_within)) h.carried_within

  module _ (p : ℕ) (lt : p < s.count) where
    abbrev q : SoundProcess s p
    q = h.processes p lt

    kept_sound_lem : kept_sound s p ≡ true
    unfolding kept_sound
    kept_sound_lem =
        and_both _ _ (and_both _ _ (and_both _ _ (and_both _ _ (and_both _ _ (le-leb _ _ q.kept_count_some) (le-leb _ _ q.kept_count_most)) q.kept_ascend) q.kept_own)
        (eq-eqb _ _ q.kept_last)) q.own_pin

    pins_sound_lem : pins_sound s p ≡ true
    unfolding pins_sound
    pins_sound_lem = and_both _ _ q.pins_kept q.kept_pinned

    row_unused_lem : row_unused s p ≡ true
    unfolding row_unused
    row_unused_lem = and_both _ _ (and_both _ _ (and_both _ _ q.vector_unused q.pins_unused) q.stored_unused) q.row_unused_lem

  messages_sound_lem : messages_sound s ≡ true
  unfolding messages_sound
  messages_sound_lem = and_both _ _ (and_both _ _ (and_both _ _ (le-leb _ _ h.underway_most) h.messages_ascend) h.messages_sound_lem) (le-leb _ _ h.last_most)

  unused_sound_lem : unused_sound s ≡ true
  unfolding unused_sound
  unused_sound_lem =
      and_both _ _ (and_both _ _ (and_both _ _ (and_both _ _ (and_both _ _ (and_both _ _ (and_both _ _ (all_in _ (row_unused s) row_unused_lem) h.vectors_beyond) h.pins_beyond)
      h.sent_beyond) h.kept_beyond) h.kept_count_beyond) h.carried_unused) h.messages_unused

  disk_sound_lem : disk_sound s ≡ true
  unfolding disk_sound
  disk_sound_lem = and_both _ _ (and_both _ _ (all_in _ _ (λ p lt. (h.processes p lt).records_sound)) (eq-eqb _ _ h.written_sum)) (le-leb _ _ h.written_most)

  pub sound_in : sound s ≡ true
  unfolding sound
  sound_in =
      and_both _ _ (and_both _ _ (and_both _ _ (and_both _ _ (and_both _ _ (and_both _ _ count_sound_lem own_sound_lem) vectors_sound_lem)
      (all_in _ (λ p. kept_sound s p && pins_sound s p) (λ p lt. and_both _ _ (kept_sound_lem p lt) (pins_sound_lem p lt)))) messages_sound_lem) unused_sound_lem) disk_sound_lem
