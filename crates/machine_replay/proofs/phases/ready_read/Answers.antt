-- `machine_replay::phases::ready_read` meets its contract.
-- Assumes nothing.
use Rattle.std.specs.Prelude.{◌≡◌, ◌+◌, ◌-◌, ◌≤◌, ◌<◌}
use Rattle.laws.specs.Basics.{sym, ◌∙◌, ap, List, ℕ, arith, length, take, drop, length-take-le, rules}
use Rattle.whole_runs.specs.Listing.{records}
use Rattle.words.specs.Layout.{run_of}
use Rattle.machines.specs.{Machines.heard_read, Forms.answer_of, Forms.taken_of}
use Rattle.machine_replay.specs.declared.place.Place.{Place}
use Rattle.machine_replay.specs.Replaying.{Between, ending, most_to_read, onward, filled}
use Rattle.machine_replay.specs.{Standing.Lies, Standing.between_in, Standing.holding, Ready.comes_to, Ready.Lying, Ready.read_state}
use Rattle.machine_replay.proofs.{Places.Inside, Places.inside_out, Places.enough_input, Places.enough_out, Places.printed_ending}
use Rattle.machine_replay.proofs.{Starts.most_same, Starts.more_buffered}
use Rattle.machines.specs.declared.heard.Taken as takens
use Rattle.machines.specs.Forms as form
use Rattle.machine_replay.proofs.phases.ready_read.Goals as goal

pub fill_to-requires : goal.fill_to-requires
fill_to-requires c =
    let in_lists : Inside c.args.p (length c.args.input.now) (length c.args.out.now) = inside_out c.args.p (length c.args.input.now) (length c.args.out.now) c.requires.0.there in
    omega (arith, in_lists.few)

pub overflow_sub-most : goal.overflow_sub-most
overflow_sub-most c =
    let in_lists : Inside c.args.p (length c.args.input.now) (length c.args.out.now) = inside_out c.args.p (length c.args.input.now) (length c.args.out.now) c.requires.0.there in
    let few_buffered : c.args.p.buffered < 4 = (in_lists.front (λ e. omega (arith, c.requires.1))).0 in
    omega (arith, c.fill_to.ensures, few_buffered, in_lists.few, enough_input _ _ _ c.requires.0.room)

pub with_more-requires : goal.with_more-requires
unfolding form.Between
with_more-requires c =
    let in_lists : Inside c.args.p (length c.args.input.now) (length c.args.out.now) = inside_out c.args.p (length c.args.input.now) (length c.args.out.now) c.requires.0.there in
    let few_buffered : c.args.p.buffered < 4 = (in_lists.front (λ e. omega (arith, c.requires.1))).0 in
    let few = (rw c.in-Brought.is at c.read-taken.ensures.1).1 in (few_buffered, omega (arith, few, c.fill_to.ensures))

pub slice_bounds-end-end : goal.slice_bounds-end-end
slice_bounds-end-end c =
    let in_lists : Inside c.args.p (length c.args.input.now) (length c.args.out.now) = inside_out c.args.p (length c.args.input.now) (length c.args.out.now) c.requires.0.there in
    sym (length-take-le c.args.p.buffered c.args.input.now in_lists.bytes)

pub end-size-requires : goal.end-size-requires
end-size-requires c =
    let in_lists : Inside c.args.p (length c.args.input.now) (length c.args.out.now) = inside_out c.args.p (length c.args.input.now) (length c.args.out.now) c.requires.0.there in
    let few_buffered : c.args.p.buffered < 4 = (in_lists.front (λ e. omega (arith, c.requires.1))).0 in
    (omega (arith, length-take-le c.args.p.buffered c.args.input.now in_lists.bytes, few_buffered), enough_out _ _ _ c.requires.0.room)

pub returns-in-Brought : goal.returns-in-Brought
unfolding form.Between holding comes_to Lying read_state filled taken_of
returns-in-Brought c =
    let in_lists : Inside c.args.p (length c.args.input.now) (length c.args.out.now) = inside_out c.args.p (length c.args.input.now) (length c.args.out.now) c.requires.0.there in
    let few_buffered : c.args.p.buffered < 4 = (in_lists.front (λ e. omega (arith, c.requires.1))).0 in
    let at_front : c.args.p.from ≡ 0 = (in_lists.front (λ e. omega (arith, c.requires.1))).1 in
    let most_is : c.fill_to.result - c.args.p.buffered ≡ most_to_read (length c.args.input.now) (between_in c.args.p c.args.words.now c.args.input.now) = ap (λ (k : ℕ). k - c.args.p.buffered) c.fill_to.ensures ∙ most_same c.args.p c.args.words.now c.args.input.now at_front in_lists.bytes in
    let heard_as : (form : takens.Taken) → c.read-taken.result ≡ form
    → heard_read (most_to_read (length c.args.input.now) (between_in c.args.p c.args.words.now c.args.input.now)) (answer_of c.args.answer c.args.p.buffered c.args.input.now) ≡ taken_of form c.args.p.buffered c.args.input.now = λ form e. let fits : c.args.p.buffered + (c.fill_to.result - c.args.p.buffered) ≤ length c.args.input.now = omega (arith, c.fill_to.ensures, in_lists.few, few_buffered, enough_input _ _ _ c.requires.0.room) in
    rw (← most_is) (c.read-taken.ensures.0 c.args.p.buffered c.args.input.now fits ∙ ap (λ (f : takens.Taken). taken_of f c.args.p.buffered c.args.input.now) e) in
    let room = length c.args.out.now in let more = c.in-Brought.more in let few = (rw c.in-Brought.is at c.read-taken.ensures.1).1 in let lies : Lies (holding c.args.p more) c.args.words.now c.args.input.now c.args.out.now = record {
      room = c.requires.0.room;
      few = in_lists.few;
      within = omega (arith, few, c.fill_to.ensures, few_buffered, in_lists.few, enough_input _ _ _ c.requires.0.room);
    } in record {
      out_after = ap (λ (q : Place). onward room (between_in q c.args.words.now c.args.input.now)) c.with_more.ensures
          ∙ ap (onward room) (more_buffered c.args.p c.args.words.now c.args.input.now at_front in_lists.bytes more)
          ∙ sym (ap (filled room (between_in c.args.p c.args.words.now c.args.input.now)) (heard_as _ c.in-Brought.is));
      lying = rw c.with_more.ensures lies;
    }

pub returns-in-Ended : goal.returns-in-Ended
unfolding comes_to Lying read_state filled taken_of between_in
returns-in-Ended c =
    let in_lists : Inside c.args.p (length c.args.input.now) (length c.args.out.now) = inside_out c.args.p (length c.args.input.now) (length c.args.out.now) c.requires.0.there in
    let at_front : c.args.p.from ≡ 0 = (in_lists.front (λ e. omega (arith, c.requires.1))).1 in
    let few_buffered : c.args.p.buffered < 4 = (in_lists.front (λ e. omega (arith, c.requires.1))).0 in
    let most_is : c.fill_to.result - c.args.p.buffered ≡ most_to_read (length c.args.input.now) (between_in c.args.p c.args.words.now c.args.input.now) = ap (λ (k : ℕ). k - c.args.p.buffered) c.fill_to.ensures ∙ most_same c.args.p c.args.words.now c.args.input.now at_front in_lists.bytes in
    let heard_as : (form : takens.Taken) → c.read-taken.result ≡ form
    → heard_read (most_to_read (length c.args.input.now) (between_in c.args.p c.args.words.now c.args.input.now)) (answer_of c.args.answer c.args.p.buffered c.args.input.now) ≡ taken_of form c.args.p.buffered c.args.input.now = λ form e. let fits : c.args.p.buffered + (c.fill_to.result - c.args.p.buffered) ≤ length c.args.input.now = omega (arith, c.fill_to.ensures, in_lists.few, few_buffered, enough_input _ _ _ c.requires.0.room) in
    rw (← most_is) (c.read-taken.ensures.0 c.args.p.buffered c.args.input.now fits ∙ ap (λ (f : takens.Taken). taken_of f c.args.p.buffered c.args.input.now) e) in
    let printed = c.end-size in let run = run_of c.args.words.now in record {
      out_after = rw c.with_text.ensures (printed_ending c.args.words.now c.args.input.now c.args.out.now _ printed.new.out printed.result c.requires.0.room (printed.ensures.0 c.args.p.all run) printed.ensures.1 printed.auto.out
          ∙ ap (λ (k : ℕ). ending (records c.args.p.all c.args.p.count run (take c.args.p.buffered (drop k c.args.input.now)))) (sym at_front)
          ∙ sym (ap (filled (length c.args.out.now) (between_in c.args.p c.args.words.now c.args.input.now)) (heard_as _ c.in-Ended.is)));
      lying = tt;
    }

pub returns-in-Failed : goal.returns-in-Failed
unfolding comes_to Lying read_state filled taken_of
returns-in-Failed c =
    let in_lists : Inside c.args.p (length c.args.input.now) (length c.args.out.now) = inside_out c.args.p (length c.args.input.now) (length c.args.out.now) c.requires.0.there in
    let few_buffered : c.args.p.buffered < 4 = (in_lists.front (λ e. omega (arith, c.requires.1))).0 in
    let at_front : c.args.p.from ≡ 0 = (in_lists.front (λ e. omega (arith, c.requires.1))).1 in
    let most_is : c.fill_to.result - c.args.p.buffered ≡ most_to_read (length c.args.input.now) (between_in c.args.p c.args.words.now c.args.input.now) = ap (λ (k : ℕ). k - c.args.p.buffered) c.fill_to.ensures ∙ most_same c.args.p c.args.words.now c.args.input.now at_front in_lists.bytes in
    let heard_as : (form : takens.Taken) → c.read-taken.result ≡ form
    → heard_read (most_to_read (length c.args.input.now) (between_in c.args.p c.args.words.now c.args.input.now)) (answer_of c.args.answer c.args.p.buffered c.args.input.now) ≡ taken_of form c.args.p.buffered c.args.input.now = λ form e. let fits : c.args.p.buffered + (c.fill_to.result - c.args.p.buffered) ≤ length c.args.input.now = omega (arith, c.fill_to.ensures, in_lists.few, few_buffered, enough_input _ _ _ c.requires.0.room) in
    rw (← most_is) (c.read-taken.ensures.0 c.args.p.buffered c.args.input.now fits ∙ ap (λ (f : takens.Taken). taken_of f c.args.p.buffered c.args.input.now) e) in
    record {
      out_after = c.fail_input.ensures ∙ sym (ap (filled (length c.args.out.now) (between_in c.args.p c.args.words.now c.args.input.now)) (heard_as _ c.in-Failed.is));
      lying = tt;
    }
