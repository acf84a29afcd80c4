-- `words_process::steps::settle` meets its contract. Assumes nothing.
use Rattle.std.specs.Prelude.{◌≡◌, ◌-◌, ◌≤◌, ◌<◌}
use Rattle.laws.specs.Basics.{refl, ◌∙◌, ap, not, List, ℕ, arith, length, length-set, sets, rules}
use Rattle.laws.specs.{Lists.select, Lists.table, Tables.length_table}
use Rattle.model.specs.declared.Checkpoint.{Checkpoint}
use Rattle.model.specs.{Steps.listed, Words.is_pinned}
use Rattle.whole_runs.specs.Outcomes.{pairs}
use Rattle.words.specs.Layout.{word, kept_count_at_of, checkpoint_in}
use Rattle.words_process.specs.{Pins.pin_row, Steps.places_of, Steps.unpinned_in, Kept.Collected}
use Rattle.words_process.proofs.Settling.{pinned, pinned_places, pinned_used, pinned_still, end_size, end_disk, end_moves}
use Rattle.words_process.proofs.steps.settle.Goals as goal

-- There is a place for the checkpoint that is stored.
few : (w : List ℕ) (size : length w ≡ 6464) (i : ℕ) (room : i < 16) (r p : List ℕ) → p ≡ pinned w size i room r → word w (kept_count_at_of i) ≤ 16 → (v : List ℕ) (stay : ℕ)
    → Collected p i (word w (kept_count_at_of i)) (pin_row r) v stay → length (select (is_pinned (pin_row r)) (table (word w (kept_count_at_of i)) (checkpoint_in w i))) < 16 → stay < 16
few w size i room r p e most v stay c less =
    omega (
      arith,
      length_table stay (checkpoint_in v i),
      ap length (c.front ∙ ap (λ (q : List ℕ). select (is_pinned (pin_row r)) (table (word w (kept_count_at_of i)) (checkpoint_in q i))) e ∙ ap (select (is_pinned (pin_row r))) (pinned_places w size i room r (word w (kept_count_at_of i)) most)),
    )

-- What was collected is what stood in the places before the pins were put.
gone_is : (w : List ℕ) (size : length w ≡ 6464) (i : ℕ) (room : i < 16) (r p : List ℕ) → p ≡ pinned w size i room r → word w (kept_count_at_of i) ≤ 16
    → select (λ c. not (is_pinned (pin_row r) c)) (table (word w (kept_count_at_of i)) (checkpoint_in p i)) ≡ unpinned_in w i (pin_row r)
unfolding unpinned_in places_of
gone_is w size i room r p e most =
    ap (λ (q : List ℕ). select (λ c. not (is_pinned (pin_row r) c)) (table (word w (kept_count_at_of i)) (checkpoint_in q i))) e
    ∙ ap (select (λ c. not (is_pinned (pin_row r) c))) (pinned_places w size i room r (word w (kept_count_at_of i)) most)

pub collect-stay-requires : goal.collect-stay-requires
collect-stay-requires c =
    let a = c.args in let e = c.put_row.ensures in record {
      w_len = (
        c.put_row.auto.w ∙ c.requires.w_len.0,
        c.requires.w_len.1,
        c.requires.from_bound.0,
        c.requires.from_bound.1,
        rw e (pinned_used a.w.now c.requires.w_len.0 a.i c.requires.w_len.1 a.pins (word a.w.now (kept_count_at_of a.i)) c.requires.from_bound.1 c.requires.from_bound.2),
        rw e (pinned_still a.w.now c.requires.w_len.0 a.i c.requires.w_len.1 a.pins (pin_row a.pins) a.from (omega (arith, c.requires.from_bound.0, c.requires.from_bound.1)) c.requires.from_bound.3),
      );
      kept_count_in_bounds = (omega (arith, c.requires.i_len_bound.1), omega arith);
    }

pub store_if-requires : goal.store_if-requires
store_if-requires c =
    let t = c.collect-stay in (
      t.auto.w ∙ c.put_row.auto.w ∙ c.requires.w_len.0,
      c.requires.w_len.1,
      λ stores. (few c.args.w.now c.requires.w_len.0 c.args.i c.requires.w_len.1 c.args.pins c.put_row.new.w c.put_row.ensures c.requires.from_bound.1 t.new.w t.result t.ensures.collected (c.requires.i_len_bound.0 stores), c.requires.w_len.2 stores),
    )

pub bill-requires : goal.bill-requires
bill-requires c =
    let long : length c.args.vector ≡ 16 = search rules in
    let d = end_disk c.args.w.now c.requires.w_len.0 c.args.i c.requires.w_len.1 c.args.pins c.put_row.new.w c.put_row.ensures (word c.args.w.now (kept_count_at_of c.args.i)) refl c.requires.from_bound.1 c.collect-stay.new.w c.collect-stay.result c.collect-stay.ensures.collected c.args.index c.args.cause c.args.vector long c.args.stores (λ stores. few c.args.w.now c.requires.w_len.0 c.args.i c.requires.w_len.1 c.args.pins c.put_row.new.w c.put_row.ensures c.requires.from_bound.1 c.collect-stay.new.w c.collect-stay.result c.collect-stay.ensures.collected (c.requires.i_len_bound.0 stores)) _ _ c.store_if.ensures c.kept_count_then.ensures in (
      end_size c.args.w.now c.requires.w_len.0 c.args.i c.requires.w_len.1 c.args.pins c.put_row.new.w c.put_row.ensures (word c.args.w.now (kept_count_at_of c.args.i)) refl c.requires.from_bound.1 c.collect-stay.new.w c.collect-stay.result c.collect-stay.ensures.collected c.args.index c.args.cause c.args.vector long c.args.stores (λ stores. few c.args.w.now c.requires.w_len.0 c.args.i c.requires.w_len.1 c.args.pins c.put_row.new.w c.put_row.ensures c.requires.from_bound.1 c.collect-stay.new.w c.collect-stay.result c.collect-stay.ensures.collected (c.requires.i_len_bound.0 stores)) _ _ c.store_if.ensures c.kept_count_then.ensures,
      rw d.0 c.requires.w_len.3,
      rw d.1 c.requires.w_len.4,
      omega (arith, c.requires.from_bound.1),
    )

pub shape_of-w : goal.shape_of-w
shape_of-w c =
    c.bill.auto.w ∙ simp length-set (c.store_if.auto.w ∙ c.collect-stay.auto.w ∙ c.put_row.auto.w)

pub shape_of-deleted : goal.shape_of-deleted
shape_of-deleted c =
    c.collect-stay.auto.deleted

pub returns : goal.returns
returns c =
    let long : length c.args.vector ≡ 16 = search rules in
    let bill = c.bill.ensures in let t = c.collect-stay in let none = gone_is c.args.w.now c.requires.w_len.0 c.args.i c.requires.w_len.1 c.args.pins c.put_row.new.w c.put_row.ensures c.requires.from_bound.1 in record { moves = end_moves c.args.w.now c.requires.w_len.0 c.args.i c.requires.w_len.1 c.args.pins c.put_row.new.w c.put_row.ensures (word c.args.w.now (kept_count_at_of c.args.i)) refl c.requires.from_bound.1 c.collect-stay.new.w c.collect-stay.result c.collect-stay.ensures.collected c.args.index c.args.cause c.args.vector long c.args.stores (λ stores. few c.args.w.now c.requires.w_len.0 c.args.i c.requires.w_len.1 c.args.pins c.put_row.new.w c.put_row.ensures c.requires.from_bound.1 c.collect-stay.new.w c.collect-stay.result c.collect-stay.ensures.collected (c.requires.i_len_bound.0 stores)) _ _ c.store_if.ensures c.kept_count_then.ensures _ _ _ bill.only_disk bill.w_after.0 bill.w_after.1; deleted_after = t.ensures.deleted_after ∙ ap (λ (q : List Checkpoint). sets c.args.deleted.now 0 (pairs (listed c.args.i q))) none; value = omega (arith, t.ensures.kept_count_value, ap length none) }
