-- `library_halves::merge` meets its contract. After the first `?` both halves are such that no rule refuses them before any record (`fine`).
-- Assumes nothing.
use Prim.{tt}
use Rattle.std.specs.Prelude.{◌≡◌, ◌+◌, ◌*◌, ◌/◌, ◌≤◌, Ok, Err}
use Rattle.laws.specs.Basics.{refl, sym, ◌∙◌, List, None, Some, ℕ, get_or, set, sets, take, length, arith, rules, length-set, length-take-le}
use Rattle.model.specs.declared.Refusal.{Refusal}
use Rattle.theory_merges.specs.Merge.{after_first_byte, merge_refusal}
use Rattle.theory_merges.proofs.Replaying.{Fine, fine}
use Rattle.admissions.specs.Admissions.{refusal_of}
use Rattle.library_halves.specs.Log.{bytes_up_to}
use Rattle.library_halves.proofs.{Rules.after_first_is, Rules.count_is, Bytes.bytes_front}
use Rattle.library_halves.proofs.Whole.{refused_early, refused_late, merged}
use Rattle.library_halves.proofs.merge.Goals as goal

-- What the judgement of both halves says, where it accepts them, and where it does not.
module _ (first second : List ℕ) (set : ℕ) (res : List ℕ) where
  accepted : ((buffer : List ℕ) → length buffer ≡ length res → refusal_of (Ok tt) ≡ merge_refusal first second set buffer) → merge_refusal first second set res ≡ None
  unfolding refusal_of
  accepted says = sym (says res refl)

  refused : (why : Refusal) → ((buffer : List ℕ) → length buffer ≡ length res → refusal_of (Err why) ≡ merge_refusal first second set buffer) → merge_refusal first second set res ≡ Some why
  unfolding refusal_of
  refused why says = sym (says res refl)

  -- Both halves have their first byte and few records, and the buffer has room for them.
  record Room (one other : ℕ) : Type 0 where
    pub few_processes : Fine first second res
    pub first_byte : 1 ≤ length first
    pub second_byte : 1 ≤ length second
    pub few : one + other ≤ 8192
    pub room : 1 + 4 * (one + other) ≤ length res

  room_of : ((buffer : List ℕ) → length buffer ≡ length res → refusal_of (Ok tt) ≡ merge_refusal first second set buffer)
      → (one other : ℕ) → one ≡ length (after_first_byte first) / 4 → other ≡ length (after_first_byte second) / 4 → Room one other
  room_of says one other d e = let h = fine first second set res (accepted says) in record {
    few_processes = h;
    first_byte = omega (arith, h.first_byte);
    second_byte = omega (arith, h.second_byte);
    few = omega (arith, h.few_first, h.few_second);
    room = omega (arith, h.room, h.first_byte, h.second_byte, after_first_is first, after_first_is second);
  }

-- What is written of the front of a log.
wide : (k : ℕ) (log res : List ℕ) (x : ℕ) → k ≤ length log → 1 + 4 * k ≤ length res → 1 + 4 * length (take k log) ≤ length (set res 0 x)
wide k log res x h g = omega (arith, length-take-le k log h, length-set res 0 x)

wrote : (k total : ℕ) (log res out : List ℕ) (x n : ℕ) → k ≤ length log → k ≡ total → x ≡ n
    → out ≡ sets (set res 0 x) 1 (bytes_up_to (length (take k log)) (take k log)) → out ≡ sets (set res 0 n) 1 (bytes_up_to total log)
wrote k total log res out x n h d e w = let same : length (take k log) ≡ k = length-take-le k log h in
    w ∙ rw (same, bytes_front k k log (omega arith), d, e)

pub returns-in_err-judge_halves-clause-value : goal.returns-in_err-judge_halves-clause-value
returns-in_err-judge_halves-clause-value c =
    let a = c.args in let e : c.from_residual.result ≡ Err c.in_err-judge_halves.field-0.0 = search rules in
    e ∙ (refused_early a.first.now a.second.now a.set a.res.now _ (refused a.first.now a.second.now a.set a.res.now _ c.in_err-judge_halves.ensures)).0

pub returns-in_err-judge_halves-clause-res_after : goal.returns-in_err-judge_halves-clause-res_after
returns-in_err-judge_halves-clause-res_after c =
    let a = c.args in (refused_early a.first.now a.second.now a.set a.res.now _ (refused a.first.now a.second.now a.set a.res.now _ c.in_err-judge_halves.ensures)).1

pub take_all-requires-clause-n_le_most_processes : goal.take_all-requires-clause-n_le_most_processes
take_all-requires-clause-n_le_most_processes c =
    let a = c.args in let h = room_of a.first.now a.second.now a.set a.res.now c.in_ok-judge_halves.ensures _ _ refl refl in
    (omega (arith, h.few_processes.count, c.count_of.ensures), h.first_byte, h.second_byte)

pub take_all-requires-clause-second_in_bounds : goal.take_all-requires-clause-second_in_bounds
take_all-requires-clause-second_in_bounds c =
    let a = c.args in let h = room_of a.first.now a.second.now a.set a.res.now c.in_ok-judge_halves.ensures _ _ refl refl in
    (h.few, omega arith)

pub returns-in_err-take_all-clause-value : goal.returns-in_err-take_all-clause-value
returns-in_err-take_all-clause-value c =
    let a = c.args in let e : c.from_residual-in_err-take_all.result ≡ Err c.in_err-take_all.field-0.0 = search rules in
    e ∙ (refused_late a.first.now a.second.now a.set a.res.now (accepted a.first.now a.second.now a.set a.res.now c.in_ok-judge_halves.ensures) _ c.count_of.ensures _ _ c.in_err-take_all.ensures).0

pub returns-in_err-take_all-clause-res_after : goal.returns-in_err-take_all-clause-res_after
returns-in_err-take_all-clause-res_after c =
    let a = c.args in
    (refused_late a.first.now a.second.now a.set a.res.now (accepted a.first.now a.second.now a.set a.res.now c.in_ok-judge_halves.ensures) _ c.count_of.ensures _ _ c.in_err-take_all.ensures).1

pub overflow_add-count : goal.overflow_add-count
overflow_add-count c =
    let a = c.args in let h = room_of a.first.now a.second.now a.set a.res.now c.in_ok-judge_halves.ensures _ _ c.how_many.ensures c.how_many-2.ensures in omega (arith, h.few)

pub bounds-first-0 : goal.bounds-first-0
bounds-first-0 c =
    let a = c.args in let h = room_of a.first.now a.second.now a.set a.res.now c.in_ok-judge_halves.ensures _ _ c.how_many.ensures c.how_many-2.ensures in omega (arith, h.first_byte)

pub bounds-res-0 : goal.bounds-res-0
bounds-res-0 c =
    let a = c.args in let h = room_of a.first.now a.second.now a.set a.res.now c.in_ok-judge_halves.ensures _ _ c.how_many.ensures c.how_many-2.ensures in omega (arith, h.room)

pub slice_bounds-log-end : goal.slice_bounds-log-end
slice_bounds-log-end c =
    let a = c.args in let h = room_of a.first.now a.second.now a.set a.res.now c.in_ok-judge_halves.ensures _ _ c.how_many.ensures c.how_many-2.ensures in omega (arith, h.few, c.take_all.auto.log)

pub slice_bounds-write_all-end : goal.slice_bounds-write_all-end
slice_bounds-write_all-end c =
    let a = c.args in let h = room_of a.first.now a.second.now a.set a.res.now c.in_ok-judge_halves.ensures _ _ c.how_many.ensures c.how_many-2.ensures in
    sym (length-take-le _ c.take_all.new.log (omega (arith, h.few, c.take_all.auto.log)))

pub write_all-requires : goal.write_all-requires
write_all-requires c =
    let a = c.args in let h = room_of a.first.now a.second.now a.set a.res.now c.in_ok-judge_halves.ensures _ _ c.how_many.ensures c.how_many-2.ensures in
    wide _ c.take_all.new.log a.res.now _ (omega (arith, h.few, c.take_all.auto.log)) h.room

pub overflow_mul-result : goal.overflow_mul-result
overflow_mul-result c =
    let a = c.args in let h = room_of a.first.now a.second.now a.set a.res.now c.in_ok-judge_halves.ensures _ _ c.how_many.ensures c.how_many-2.ensures in omega (arith, h.few)

pub overflow_add-result : goal.overflow_add-result
overflow_add-result c =
    let a = c.args in let h = room_of a.first.now a.second.now a.set a.res.now c.in_ok-judge_halves.ensures _ _ c.how_many.ensures c.how_many-2.ensures in omega (arith, h.few)

pub returns-clause-value : goal.returns-clause-value
returns-clause-value c =
    let a = c.args in
    rw (c.how_many.ensures, c.how_many-2.ensures)
    (merged a.first.now a.second.now a.set a.res.now (accepted a.first.now a.second.now a.set a.res.now c.in_ok-judge_halves.ensures) _ c.count_of.ensures _ c.in_ok-take_all.ensures).0

pub returns-clause-res_after : goal.returns-clause-res_after
returns-clause-res_after c =
    let a = c.args in let h = room_of a.first.now a.second.now a.set a.res.now c.in_ok-judge_halves.ensures _ _ c.how_many.ensures c.how_many-2.ensures in
    let n : get_or a.first.now 0 0 ≡ c.count_of.result = sym (count_is a.first.now) ∙ sym c.count_of.ensures in
    wrote _ _ c.take_all.new.log a.res.now _ _ _ (omega (arith, h.few, c.take_all.auto.log)) (omega (arith, c.how_many.ensures, c.how_many-2.ensures)) n c.write_all.ensures
    ∙ (merged a.first.now a.second.now a.set a.res.now (accepted a.first.now a.second.now a.set a.res.now c.in_ok-judge_halves.ensures) _ c.count_of.ensures _ c.in_ok-take_all.ensures).1
