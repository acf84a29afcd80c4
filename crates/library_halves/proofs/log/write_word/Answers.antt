-- `library_halves::log::write_word` meets its contract.
-- Assumes nothing.
use Rattle.std.specs.Prelude.{◌≡◌, ◌+◌, ◌-◌, ◌≤◌}
use Rattle.laws.specs.Basics.{◌∙◌, List, ℕ, arith, rules, length, sets}
use Rattle.theory_merges.proofs.Replaying.{four_bytes}
use Rattle.model.specs.Trace.{bytes_of_def}
use borrow.Rule.Slice.PartMut.{put_mid}
use Rattle.library_halves.proofs.Bytes.{put_sets, word_bytes}
use Rattle.library_halves.proofs.log.write_word.Goals as goal

copied : (at w : ℕ) (out xs : List ℕ) → xs ≡ bytes_of_def w → length (bytes_of_def w) ≡ 4 → at + 4 ≤ length out → put_mid at (at + 4 - at) out xs ≡ sets out at (bytes_of_def w)
copied at w out xs e four h = let k : at + 4 - at ≡ 4 = omega arith in rw (k, e) (put_sets at 4 out (bytes_of_def w) four h)

pub returns : goal.returns
returns c =
    let a = c.args in copied a.at a.w a.out.now _ (c.copy_from_slice.ensures.after ∙ c.to_be_bytes.ensures ∙ word_bytes a.w (search rules)) (four_bytes a.w) c.requires
