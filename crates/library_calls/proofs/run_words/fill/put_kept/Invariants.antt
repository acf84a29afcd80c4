-- `library_calls::run_words::fill::put_kept` meets its contract. Assumes nothing.
use Rattle.std.specs.Prelude.{◌≡◌, ◌/◌, ◌%◌, ◌≤◌}
use Rattle.laws.specs.Basics.{[], length, get_or}
use Rattle.laws.specs.{Loops.iter, Search.all_below}
use Rattle.model.specs.Words.{past_end}
use Rattle.library_calls.specs.{run_words.Fits.place_fits, run_words.Filled.kept_filled}
use Rattle.library_calls.proofs.run_words.fill.put_kept.Given as goal

abbrev pub invariant-loop-q : goal.invariant-loop-q
invariant-loop-q l = (l.q ≤ 256) × (length l.w ≡ length l.initial.w)
    × (l.all ≡ all_below l.q (λ j. place_fits (j % 16) (get_or l.kept_count (j / 16) 0) (get_or (get_or l.kept (j / 16) []) 0 past_end).blocks (get_or (get_or l.kept (j / 16) []) (j % 16) past_end)))
    × (l.w ≡ iter l.q (kept_filled l.kept l.kept_count) l.initial.w)
