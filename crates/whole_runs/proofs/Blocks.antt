-- Replaying block by block prints what replaying the whole prints. A block is a whole number of records; where the limit of records falls
-- inside a block, its later records and all that follows print nothing. Where the replay stops at a record, nothing after it is printed.
-- Assumes nothing.
use Rattle.std.specs.Prelude.{◌≡◌, ◌&&◌, ◌∷◌, ◌++◌, ◌+◌, ◌*◌, ◌≤◌, ◌<◌}
use Rattle.laws.specs.Basics.{refl, sym, ◌∙◌, ap, Bool, true, List, [], append-nil, append_assoc, ℕ, zero, suc, arith, ltb, length, take, drop, length-drop, length-take-le, lt-ltb, le-ltb, ltb-false, pick, by_bool}
use lib.Seq.{take-add}
use Rattle.laws.specs.Choice.{pick_same}
use Rattle.model.specs.declared.Run.{Run}
use Rattle.model.specs.Trace.{decoded}
use Rattle.whole_runs.specs.Listing.{perform, line_text, most_records, goes_on_of, records, goes_on_after_all, state_after_records}

-- Past the limit nothing is printed, whatever follows.
pub past_limit : (all : Bool) (done : ℕ) (s : Run) (l : List ℕ) → most_records ≤ done → records all done s l ≡ []
unfolding records
past_limit all done s [] h = refl
past_limit all done s (a ∷ []) h = rw (le-ltb done most_records h)
past_limit all done s (a ∷ b ∷ []) h = rw (le-ltb done most_records h)
past_limit all done s (a ∷ b ∷ c ∷ []) h = rw (le-ltb done most_records h)
past_limit all done s (a ∷ b ∷ c ∷ d ∷ l) h = rw (le-ltb done most_records h)

-- The law of blocks, both ways and for every number of records that were taken before.
pub block_by_block : (all : Bool) (k done : ℕ) (s : Run) (block rest : List ℕ) → length block ≡ 4 * k
    → records all done s (block ++ rest) ≡ records all done s block ++ pick (goes_on_after_all all s block) (records all (done + k) (state_after_records s block) rest) []
unfolding records state_after_records goes_on_after_all
block_by_block all zero done s [] rest h = let e : done + zero ≡ done = omega arith in rw e
block_by_block all (suc k) done s [] rest h = absurd (omega arith)
block_by_block all k done s (a ∷ []) rest h = absurd (omega arith)
block_by_block all k done s (a ∷ b ∷ []) rest h = absurd (omega arith)
block_by_block all k done s (a ∷ b ∷ c ∷ []) rest h = absurd (omega arith)
block_by_block all zero done s (a ∷ b ∷ c ∷ d ∷ l) rest h = absurd (omega arith)
block_by_block all (suc k) done s (a ∷ b ∷ c ∷ d ∷ l) rest h =
    let o = perform s (decoded (a ∷ b ∷ c ∷ d ∷ [])) in
    let line = line_text (done + 1) o.reply in
    let next : done + suc k ≡ (done + 1) + k = omega arith in
    let rest_after = pick (goes_on_after_all all o.run l) (records all ((done + 1) + k) (state_after_records o.run l) rest) [] in
    by_bool (ltb done most_records)
    (λ t. by_bool (goes_on_of all o.reply.report.refused)
    (λ g. rw (t, g, next, block_by_block all k (done + 1) o.run l rest (omega arith)) (sym (append_assoc line (records all (done + 1) o.run l) rest_after)))
    (λ g. rw (t, g) (sym (append-nil _))))
    (λ t. rw (t, past_limit all (done + suc k) (state_after_records o.run l) rest (omega (arith, ltb-false done most_records t))) (sym (pick_same (goes_on_of all o.reply.report.refused && goes_on_after_all all o.run l) [])))

-- The same of going on.
pub goes_on_by_block : (all : Bool) (k : ℕ) (s : Run) (block rest : List ℕ) → length block ≡ 4 * k
    → goes_on_after_all all s (block ++ rest) ≡ (goes_on_after_all all s block && goes_on_after_all all (state_after_records s block) rest)
unfolding goes_on_after_all state_after_records
goes_on_by_block all zero s [] rest h = refl
goes_on_by_block all (suc k) s [] rest h = absurd (omega arith)
goes_on_by_block all k s (a ∷ []) rest h = absurd (omega arith)
goes_on_by_block all k s (a ∷ b ∷ []) rest h = absurd (omega arith)
goes_on_by_block all k s (a ∷ b ∷ c ∷ []) rest h = absurd (omega arith)
goes_on_by_block all zero s (a ∷ b ∷ c ∷ d ∷ l) rest h = absurd (omega arith)
goes_on_by_block all (suc k) s (a ∷ b ∷ c ∷ d ∷ l) rest h =
    let o = perform s (decoded (a ∷ b ∷ c ∷ d ∷ [])) in
    by_bool (goes_on_of all o.reply.report.refused)
    (λ g. rw g (goes_on_by_block all k o.run l rest (omega arith)))
    (λ g. rw g)

-- The same of the states.
pub states_by_block : (k : ℕ) (s : Run) (block rest : List ℕ) → length block ≡ 4 * k
    → state_after_records s (block ++ rest) ≡ state_after_records (state_after_records s block) rest
unfolding state_after_records
states_by_block zero s [] rest h = refl
states_by_block (suc k) s [] rest h = absurd (omega arith)
states_by_block k s (a ∷ []) rest h = absurd (omega arith)
states_by_block k s (a ∷ b ∷ []) rest h = absurd (omega arith)
states_by_block k s (a ∷ b ∷ c ∷ []) rest h = absurd (omega arith)
states_by_block zero s (a ∷ b ∷ c ∷ d ∷ l) rest h = absurd (omega arith)
states_by_block (suc k) s (a ∷ b ∷ c ∷ d ∷ l) rest h = states_by_block k (perform s (decoded (a ∷ b ∷ c ∷ d ∷ []))).run l rest (omega arith)

-- One record is a block: its line below the limit, whether the replay goes on after it, and the state after it.
pub one_line : (all : Bool) (done : ℕ) (s : Run) (r : List ℕ) → length r ≡ 4 → done < most_records → records all done s r ≡ line_text (done + 1) (perform s (decoded r)).reply
unfolding records
one_line all done s [] h l = absurd (omega arith)
one_line all done s (a ∷ []) h l = absurd (omega arith)
one_line all done s (a ∷ b ∷ []) h l = absurd (omega arith)
one_line all done s (a ∷ b ∷ c ∷ []) h l = absurd (omega arith)
one_line all done s (a ∷ b ∷ c ∷ d ∷ []) h l = rw (lt-ltb done most_records l, pick_same, append-nil)
one_line all done s (a ∷ b ∷ c ∷ d ∷ e ∷ r) h l = absurd (omega arith)

pub one_goes_on : (all : Bool) (s : Run) (r : List ℕ) → length r ≡ 4 → goes_on_after_all all s r ≡ goes_on_of all (perform s (decoded r)).reply.report.refused
unfolding goes_on_after_all
one_goes_on all s [] h = absurd (omega arith)
one_goes_on all s (a ∷ []) h = absurd (omega arith)
one_goes_on all s (a ∷ b ∷ []) h = absurd (omega arith)
one_goes_on all s (a ∷ b ∷ c ∷ []) h = absurd (omega arith)
one_goes_on all s (a ∷ b ∷ c ∷ d ∷ []) h = by_bool (goes_on_of all (perform s (decoded (a ∷ b ∷ c ∷ d ∷ []))).reply.report.refused) (λ g. rw g) (λ g. rw g)
one_goes_on all s (a ∷ b ∷ c ∷ d ∷ e ∷ r) h = absurd (omega arith)

pub one_state : (s : Run) (r : List ℕ) → length r ≡ 4 → state_after_records s r ≡ (perform s (decoded r)).run
unfolding state_after_records
one_state s [] h = absurd (omega arith)
one_state s (a ∷ []) h = absurd (omega arith)
one_state s (a ∷ b ∷ []) h = absurd (omega arith)
one_state s (a ∷ b ∷ c ∷ []) h = absurd (omega arith)
one_state s (a ∷ b ∷ c ∷ d ∷ []) h = refl
one_state s (a ∷ b ∷ c ∷ d ∷ e ∷ r) h = absurd (omega arith)

-- A block by its last record: the first k records of a trace, and the one after them.
module _ (k done : ℕ) (s : Run) (trace : List ℕ) (more : 4 * k + 4 ≤ length trace) where
  first_records : length (take (4 * k) trace) ≡ 4 * k
  first_records = length-take-le (4 * k) trace (omega arith)

  pub next_length : length (take 4 (drop (4 * k) trace)) ≡ 4
  next_length = length-take-le 4 (drop (4 * k) trace) (omega (arith, length-drop (4 * k) trace))

  pub next_line : (all : Bool) → done + k < most_records → goes_on_after_all all s (take (4 * k) trace) ≡ true → records all done s (take (4 * k + 4) trace)
      ≡ records all done s (take (4 * k) trace) ++ line_text (done + k + 1) (perform (state_after_records s (take (4 * k) trace)) (decoded (take 4 (drop (4 * k) trace)))).reply
  next_line all h going =
      let first = records all done s (take (4 * k) trace) in
      let second = take 4 (drop (4 * k) trace) in
      ap (records all done s) (take-add (4 * k) 4 trace)
      ∙ block_by_block all k done s (take (4 * k) trace) second first_records
      ∙ ap (λ (b : Bool). first ++ pick b (records all (done + k) (state_after_records s (take (4 * k) trace)) second) []) going
      ∙ ap (λ (l : List ℕ). first ++ l) (one_line all (done + k) (state_after_records s (take (4 * k) trace)) second next_length h)

  pub next_goes_on : (all : Bool) → goes_on_after_all all s (take (4 * k) trace) ≡ true → goes_on_after_all all s (take (4 * k + 4) trace)
      ≡ goes_on_of all (perform (state_after_records s (take (4 * k) trace)) (decoded (take 4 (drop (4 * k) trace)))).reply.report.refused
  next_goes_on all going =
      let second = take 4 (drop (4 * k) trace) in
      ap (goes_on_after_all all s) (take-add (4 * k) 4 trace)
      ∙ goes_on_by_block all k s (take (4 * k) trace) second first_records
      ∙ ap (λ (b : Bool). b && goes_on_after_all all (state_after_records s (take (4 * k) trace)) second) going
      ∙ one_goes_on all (state_after_records s (take (4 * k) trace)) second next_length

  pub next_state : state_after_records s (take (4 * k + 4) trace) ≡ (perform (state_after_records s (take (4 * k) trace)) (decoded (take 4 (drop (4 * k) trace)))).run
  next_state =
      ap (state_after_records s) (take-add (4 * k) 4 trace)
      ∙ states_by_block k s (take (4 * k) trace) (take 4 (drop (4 * k) trace)) first_records
      ∙ one_state (state_after_records s (take (4 * k) trace)) (take 4 (drop (4 * k) trace)) next_length
