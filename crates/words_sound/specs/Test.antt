-- Document 01, "A sound state", as it is tested on the words themselves. Only places in use are looked at: a row that is in use whole, all its 16 words.
-- proofs/Whole has the theorem that the test is `sound` of the run that the words stand for.
-- Assumes nothing.
use Rattle.std.specs.Prelude.{◌≡◌, ◌&&◌, ◌||◌, ◌∷◌, ◌+◌, ◌-◌, ◌*◌, ◌≤◌}
use Rattle.laws.specs.Basics.{Bool, not, List, [], ℕ, zero, suc, eqb, ltb, leb, length, pick}
use Rattle.laws.specs.{Lists.table, Search.all_below, Search.any_below, Sums.sum_below, Tests.all_of, Tests.count_below}
use Rattle.model.specs.declared.Interval.{Interval}
use Rattle.model.specs.{Words.most_processes, Words.most_under_way, Words.most_messages, Words.most_blocks, Sound.cause_sound}
use Rattle.words.specs.Layout.{state_size, word, wide2, wide4, count_of, end_of, kept_count_at_of, blocks_at_of, part_at, pins_at_of, index_at_of, cause_at_of, stored_at, low_at, high_at, sender_at_of, receiver_at_of, carried_at, interval_of}

-- The own entry of process p.
abbrev pub own_in : List ℕ → ℕ → ℕ
own_in w p = word w (part_at p + p)

-- "No vector .. has an entry for f above f's own current entry", and entries at n and above are zero: what entry f may be at most.
unfoldable pub most : List ℕ → ℕ → ℕ
most w f = pick (ltb f (count_of w)) (own_in w f) 0

unfoldable pub row_within_of : List ℕ → ℕ → Bool
row_within_of w at = all_below most_processes (λ f. leb (word w (at + f)) (most w f))

-- The pins of process p. "unused pins .. are none": those in columns at n and above, where an entry may only be 0. Own entries are at least 1 below n.
abbrev pub pin_in : List ℕ → ℕ → ℕ → ℕ
pin_in w p f = word w (pins_at_of p + f)

unfoldable pub unused_pins : List ℕ → ℕ → Bool
unused_pins w p = all_below most_processes (λ f. not (eqb (most w f) 0) || eqb (pin_in w p f) 0)

-- The kept checkpoints of process p: the word of an index is one above the index. The one before the first counts as 0.
abbrev pub index_in_of : List ℕ → ℕ → ℕ → ℕ
index_in_of w p k = word w (index_at_of p k)

unfoldable pub index_before : List ℕ → ℕ → ℕ → ℕ
index_before w p zero = 0
index_before w p (suc k) = index_in_of w p k

-- "indexes ascending, each one's own entry equal to its index"; Note 5: "causes 0 to 2, 0 exactly at index 0"; "every kept one is pinned".
unfoldable pub kept_tests : List ℕ → ℕ → ℕ → List Bool
kept_tests w p k =
    ltb (index_before w p k) (index_in_of w p k)
    ∷ eqb (word w (stored_at p k + p)) (index_in_of w p k - 1)
    ∷ cause_sound (index_in_of w p k - 1) (word w (cause_at_of p k))
    ∷ any_below most_processes (λ f. eqb (pin_in w p f) (index_in_of w p k))
    ∷ []

unfoldable pub kept_fits : List ℕ → ℕ → ℕ → Bool
kept_fits w p k = all_of (kept_tests w p k)

-- "Every pin is none or names a kept one", one of the first `kept_count_of_def`.
unfoldable pub pin_fits : List ℕ → ℕ → ℕ → ℕ → Bool
pin_fits w p kept_count_of_def f = eqb (pin_in w p f) 0 || any_below kept_count_of_def (λ k. eqb (pin_in w p f) (index_in_of w p k))

-- "Each process keeps 1 to n checkpoints"; Note 5: "block counts from 1": a word is at most 65,535.
unfoldable pub counts_fit : List ℕ → ℕ → Bool
counts_fit w p = leb 1 (word w (kept_count_at_of p)) && leb (word w (kept_count_at_of p)) (count_of w) && leb 1 (word w (blocks_at_of p))

-- "Own entries at least 1"; the current vector; the kept checkpoints and their vectors, of which "the last is the own entry minus 1 and the own pin names it"; the pins.
unfoldable pub part_tests : List ℕ → ℕ → List Bool
part_tests w p =
    leb 1 (own_in w p)
    ∷ eqb (pin_in w p p) (own_in w p)
    ∷ row_within_of w (part_at p)
    ∷ unused_pins w p
    ∷ all_below (word w (kept_count_at_of p)) (kept_fits w p)
    ∷ all_below (word w (kept_count_at_of p)) (λ k. row_within_of w (stored_at p k))
    ∷ eqb (index_before w p (word w (kept_count_at_of p))) (own_in w p)
    ∷ all_below most_processes (pin_fits w p (word w (kept_count_at_of p)))
    ∷ []

unfoldable pub part_fits : List ℕ → ℕ → Bool
part_fits w p = all_of (part_tests w p)

-- Note 5: "written equals blocks of all kept checkpoints plus blocks deleted", "within the bound of 16".
unfoldable pub blocks_in : List ℕ → ℕ → ℕ
blocks_in w n = sum_below n (λ p. word w (kept_count_at_of p) * word w (blocks_at_of p))

unfoldable pub disk_fits : List ℕ → Bool
disk_fits w = eqb (wide4 w 4) (blocks_in w (count_of w) + wide4 w 8) && leb (wide4 w 4) most_blocks

-- The number of the message in place k, 0 where there is none; and the last number before place k.
abbrev pub number_in : List ℕ → ℕ → ℕ
number_in w k = word w (low_at k) + 65_536 * word w (high_at k)

unfoldable pub number_before : List ℕ → ℕ → ℕ
number_before w zero = 0
number_before w (suc k) = pick (eqb (number_in w k) 0) (number_before w k) (number_in w k)

-- "Messages ascend by number"; "sender and receiver are in the run and differ".
unfoldable pub message_tests : List ℕ → ℕ → List Bool
message_tests w k =
    ltb (number_before w k) (number_in w k)
    ∷ ltb (word w (sender_at_of k)) (count_of w)
    ∷ ltb (word w (receiver_at_of k)) (count_of w)
    ∷ not (eqb (word w (sender_at_of k)) (word w (receiver_at_of k)))
    ∷ []

unfoldable pub message_fits : List ℕ → ℕ → Bool
message_fits w k = eqb (number_in w k) 0 || all_of (message_tests w k)

-- The vector that a message carries.
unfoldable pub carried_fits : List ℕ → ℕ → Bool
carried_fits w k = eqb (number_in w k) 0 || row_within_of w (carried_at k)

-- The end of the places in use; "from 1 to the last used, at most 64"; "The last used number is at most 1,000,000."
unfoldable pub messages_tests : List ℕ → List Bool
messages_tests w =
    leb (end_of w) most_under_way
    ∷ (eqb (end_of w) 0 || not (eqb (number_in w (end_of w - 1)) 0))
    ∷ all_below (end_of w) (message_fits w)
    ∷ all_below (end_of w) (carried_fits w)
    ∷ eqb (count_below (end_of w) (λ k. not (eqb (number_in w k) 0))) (word w 1)
    ∷ leb (number_before w (end_of w)) (wide2 w 2)
    ∷ leb (wide2 w 2) most_messages
    ∷ []

-- The whole test.
unfoldable pub sound_tests : List ℕ → List Bool
sound_tests w =
    eqb (length w) state_size
    ∷ leb 1 (count_of w)
    ∷ leb (count_of w) most_processes
    ∷ all_below (count_of w) (counts_fit w)
    ∷ all_below (count_of w) (part_fits w)
    ∷ disk_fits w
    ∷ all_of (messages_tests w)
    ∷ []

unfoldable pub sound_in : List ℕ → Bool
sound_in w = all_of (sound_tests w)

-- The own entries of the n processes, zero at n and above: what each entry of a vector may be at most.
unfoldable pub limits_in : List ℕ → List Interval
limits_in w = table most_processes (λ f. interval_of (most w f))

-- What is known where one part of the words is tested: their number, that of the processes, and the own entries.
pub record Judged (w : List ℕ) (n : ℕ) (owns : List Interval) : Type 0 where
  pub sized : length w ≡ state_size
  pub counted : n ≡ count_of w
  pub few : n ≤ most_processes
  pub limits : owns ≡ limits_in w
