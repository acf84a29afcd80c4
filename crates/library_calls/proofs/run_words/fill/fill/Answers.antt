-- `library_calls::run_words::fill::fill` meets its contract. Assumes nothing.
use Rattle.std.specs.Prelude.{◌≡◌, ◌&&◌}
use Rattle.laws.specs.Basics.{◌∙◌, length}
use Rattle.library_calls.proofs.{run_words.Sizes.sizes, run_words.Filling.count_most, run_words.Filling.fill_ends}
use Rattle.library_calls.proofs.run_words.fill.fill.Goals as goal

pub put_rows-rows_fit-requires : goal.put_rows-rows_fit-requires
put_rows-rows_fit-requires c =
    let after_kept : length c.put_kept-places_fit.new.w ≡ 6464 = c.put_kept-places_fit.auto.w ∙ c.requires.0 in
    after_kept

pub put_messages-messages_fit-requires : goal.put_messages-messages_fit-requires
put_messages-messages_fit-requires c =
    let after_kept : length c.put_kept-places_fit.new.w ≡ 6464 = c.put_kept-places_fit.auto.w ∙ c.requires.0 in
    let after_rows : length c.put_rows-rows_fit.new.w ≡ 6464 = c.put_rows-rows_fit.auto.w ∙ after_kept in
    after_rows

pub put_numbers-requires : goal.put_numbers-requires
put_numbers-requires c =
    let after_kept : length c.put_kept-places_fit.new.w ≡ 6464 = c.put_kept-places_fit.auto.w ∙ c.requires.0 in
    let after_rows : length c.put_rows-rows_fit.new.w ≡ 6464 = c.put_rows-rows_fit.auto.w ∙ after_kept in
    let after_messages : length c.put_messages-messages_fit.new.w ≡ 6464 = c.put_messages-messages_fit.auto.w ∙ after_rows in
    (after_messages, count_most (c.put_kept-places_fit.result && c.put_rows-rows_fit.result && c.put_messages-messages_fit.result) _ _ _ c.count_for-count.ensures c.requires.1, c.requires.2)

pub shape_of-w : goal.shape_of-w
shape_of-w c =
    c.put_numbers.auto.w ∙ c.put_messages-messages_fit.auto.w ∙ c.put_rows-rows_fit.auto.w ∙ c.put_kept-places_fit.auto.w

pub returns : goal.returns
returns c =
    let after_kept : length c.put_kept-places_fit.new.w ≡ 6464 = c.put_kept-places_fit.auto.w ∙ c.requires.0 in
    let after_rows : length c.put_rows-rows_fit.new.w ≡ 6464 = c.put_rows-rows_fit.auto.w ∙ after_kept in
    let after_messages : length c.put_messages-messages_fit.new.w ≡ 6464 = c.put_messages-messages_fit.auto.w ∙ after_rows in
    fill_ends c.args.s c.args.w.now (sizes c.args.s _ c.well_formed.1.0) c.requires.0 c.requires.1 c.requires.2 _ _ _ _ _ _ _ _ _ _ _
    c.kept_rows-kept.ensures c.vector_rows-vectors.ensures c.pin_rows-pins.ensures c.put_kept-places_fit.ensures.0 c.put_kept-places_fit.ensures.1
    c.put_rows-rows_fit.ensures.0 c.put_rows-rows_fit.ensures.1 c.put_messages-messages_fit.ensures.0 c.put_messages-messages_fit.ensures.1 c.count_for-count.ensures c.put_numbers.ensures
    after_messages
