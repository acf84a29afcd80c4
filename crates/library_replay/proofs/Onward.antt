-- Block by block: the records that are taken are in the block and no more than a replay takes, before each there was room and the replay went on, and one is taken where
-- one may be.
-- Assumes nothing.
use Rattle.std.specs.Prelude.{◌≡◌, ◌&&◌, ◌∷◌, ◌++◌, ◌+◌, ◌-◌, ◌*◌, ◌≤◌, ◌<◌}
use Rattle.laws.specs.Basics.{refl, ◌∙◌, ap, Bool, true, List, [], ℕ, zero, suc, arith, ltb, leb, length, take, length-append, lt-ltb, ltb-true, leb-true, by_bool}
use Rattle.laws.specs.Truth.{and_left, and_right, never_both}
use Rattle.model.specs.declared.Run.{Run}
use Rattle.model.specs.Trace.{decoded}
use Rattle.whole_runs.specs.{Calls.Answered, Listing.line_text, Listing.perform, Listing.most_records, Listing.goes_on_of, Listing.records, Listing.goes_on_after_all}
use Rattle.listing.specs.Lines.{longest_line}
use Rattle.library_replay.specs.Taken.{may_take, taken_of, Within, BlocksGoOn}

-- None is taken.
none_within : (all : Bool) (done : ℕ) (s : Run) (block : List ℕ) (room : ℕ) → (4 ≤ length block → may_take done room ≡ true → ⊥) → Within all done s block room 0
none_within all done s block room none-may = record {
  inside = omega arith;
  few = λ h. omega arith;
  went_on = λ k lt. absurd (omega arith);
  enough_room = λ k lt. absurd (omega arith);
  some = λ four may. absurd (none-may four may);
}

module _ (done room : ℕ) (may : may_take done room ≡ true) where
  below : done < most_records
  unfolding may_take
  below = ltb-true done most_records (and_left (ltb done most_records) (leb longest_line room) may)

  space : longest_line ≤ room
  unfolding may_take
  space = leb-true longest_line room (and_right (ltb done most_records) (leb longest_line room) may)

module _ (a b c d : ℕ) (l : List ℕ) where
  take_four : (j : ℕ) → take (4 * suc j) (a ∷ b ∷ c ∷ d ∷ l) ≡ a ∷ b ∷ c ∷ d ∷ take (4 * j) l
  take_four j = let four : 4 * suc j ≡ suc (suc (suc (suc (4 * j)))) = omega arith in ap (λ (k : ℕ). take k (a ∷ b ∷ c ∷ d ∷ l)) four

  module _ (all : Bool) (done : ℕ) (s : Run) (room : ℕ) (may : may_take done room ≡ true) where
    abbrev o : Answered
    o = perform s (decoded (a ∷ b ∷ c ∷ d ∷ []))

    -- the first is taken, and the replay stops
    one_within : Within all done s (a ∷ b ∷ c ∷ d ∷ l) room 1
    unfolding goes_on_after_all records
    one_within = record {
      inside = omega arith;
      few = λ h. omega (arith, below done room may);
      went_on = first_went_on;
      enough_room = first_enough_room;
      some = λ four m. omega arith;
    }
      where
        first_went_on : (k : ℕ) → k < 1 → goes_on_after_all all s (take (4 * k) (a ∷ b ∷ c ∷ d ∷ l)) ≡ true
        first_went_on zero lt = refl
        first_went_on (suc k) lt = absurd (omega arith)

        first_enough_room : (k : ℕ) → k < 1 → length (records all done s (take (4 * k) (a ∷ b ∷ c ∷ d ∷ l))) + longest_line ≤ room
        first_enough_room zero lt = omega (arith, space done room may)
        first_enough_room (suc k) lt = absurd (omega arith)

    module _ (goes : goes_on_of all (perform s (decoded (a ∷ b ∷ c ∷ d ∷ []))).reply.report.refused ≡ true) (more : ℕ)
        (h : Within all (done + 1) (perform s (decoded (a ∷ b ∷ c ∷ d ∷ []))).run l (room - length (line_text (done + 1) (perform s (decoded (a ∷ b ∷ c ∷ d ∷ []))).reply)) more) where
      went : (k : ℕ) → k < suc more → goes_on_after_all all s (take (4 * k) (a ∷ b ∷ c ∷ d ∷ l)) ≡ true
      unfolding goes_on_after_all
      went zero lt = refl
      went (suc k) lt = rw (take_four k, goes) (h.went_on k (omega arith))

      roomed : (k : ℕ) → k < suc more → length (records all done s (take (4 * k) (a ∷ b ∷ c ∷ d ∷ l))) + longest_line ≤ room
      unfolding records
      roomed zero lt = omega (arith, space done room may)
      roomed (suc k) lt =
          let lines = records all (done + 1) o.run (take (4 * k) l) in
          rw (take_four k, lt-ltb done most_records (below done room may), goes)
          (omega (arith, h.enough_room k (omega arith), length-append (line_text (done + 1) o.reply) lines))

      more_within : Within all done s (a ∷ b ∷ c ∷ d ∷ l) room (suc more)
      more_within = record {
        inside = omega (arith, h.inside);
        few = λ few. omega (arith, h.few (omega (arith, below done room may)));
        went_on = went;
        enough_room = roomed;
        some = λ four m. omega arith;
      }

within_of : (all : Bool) (done : ℕ) (s : Run) (block : List ℕ) (room : ℕ) → Within all done s block room (taken_of all done s block room)
unfolding taken_of
within_of all done s [] room = none_within all done s [] room (λ four may. omega arith)
within_of all done s (a ∷ []) room = none_within all done s (a ∷ []) room (λ four may. omega arith)
within_of all done s (a ∷ b ∷ []) room = none_within all done s (a ∷ b ∷ []) room (λ four may. omega arith)
within_of all done s (a ∷ b ∷ c ∷ []) room = none_within all done s (a ∷ b ∷ c ∷ []) room (λ four may. omega arith)
within_of all done s (a ∷ b ∷ c ∷ d ∷ l) room =
    let o = perform s (decoded (a ∷ b ∷ c ∷ d ∷ [])) in
    let left = room - length (line_text (done + 1) o.reply) in
    by_bool (may_take done room)
    (λ may. by_bool (goes_on_of all o.reply.report.refused)
    (λ goes. rw (may, goes) (more_within a b c d l all done s room may goes (taken_of all (done + 1) o.run l left) (within_of all (done + 1) o.run l left)))
    (λ stops. rw (may, stops) (one_within a b c d l all done s room may)))
    (λ no_more. rw no_more (none_within all done s (a ∷ b ∷ c ∷ d ∷ l) room (λ four may. never_both (may_take done room) may no_more)))

pub blocks_go_on : BlocksGoOn
unfolding BlocksGoOn
blocks_go_on = within_of
