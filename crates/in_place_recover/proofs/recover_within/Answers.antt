-- `in_place_recover::recover_within` meets its contract: the members, by which each process is restored, then the messages. Assumes nothing.
use Rattle.std.specs.Prelude.{◌≡◌, ◌||◌, ◌*◌, ◌≤◌, ◌<◌, Ok}
use Rattle.laws.specs.Basics.{refl, sym, ◌∙◌, ap, false, ℕ, arith, ltb, length, rules, le-ltb, not-true, not-false}
use Rattle.model.specs.Refusals.{no_member_of}
use Prim.{tt}
use Rattle.admissions.specs.Admissions.{recovery_admission_of}
use Rattle.words.specs.Layout.{word, count_of, run_of}
use Rattle.words.proofs.ViewSound.{sound_words}
use Rattle.words_line.specs.Line.{limits_in, pasts_in}
use Rattle.in_place.proofs.Lining.{some_own, most_kept_count, all_used, members_missing, members_there, pasts_are as found-are, pasts_room, members_found}
use Rattle.in_place_recover.proofs.Recovering.{no_member, recovers, all_restorable, all_returning, senders_still}
use Rattle.in_place_recover.proofs.recover_within.Goals as goal

neither : (m n d l : ℕ) → m ≡ n → 2 * m * m ≤ d → m ≤ l → (ltb d (2 * n * n) || ltb l n) ≡ false
neither m n d l same a b = rw (← same, le-ltb d (2 * m * m) a, le-ltb l m b)

pub limits_of-limits-requires : goal.limits_of-limits-requires
limits_of-limits-requires c =
    let few : c.args.n ≤ 16 = omega (arith, (sound_words c.args.w.now c.requires.0).few, c.requires.1) in
    ((sound_words c.args.w.now c.requires.0).size, few, some_own c.args.w.now c.requires.0 c.args.n c.requires.1)

pub find_members-all-requires : goal.find_members-all-requires
find_members-all-requires c =
    let few : c.args.n ≤ 16 = omega (arith, (sound_words c.args.w.now c.requires.0).few, c.requires.1) in
    ((sound_words c.args.w.now c.requires.0).size, few, most_kept_count c.args.w.now c.requires.0 c.args.n c.requires.1, refl)

pub returns-then-not-all : goal.returns-then-not-all
returns-then-not-all c =
    let long : let a = c.args in let n = count_of a.w.now in (ltb (length a.deleted.now) (2 * n * n) || ltb (length a.line.now) n) ≡ false = neither c.args.n (count_of c.args.w.now) (length c.args.deleted.now) (length c.args.line.now) c.requires.1 c.requires.2 c.requires.3 in
    let passed : recovery_admission_of (count_of c.args.w.now) c.args.failed ≡ Ok tt = ap (λ (k : ℕ). recovery_admission_of k c.args.failed) (sym c.requires.1) ∙ c.requires.4 in
    let w = c.args.w.now in let e = members_missing w c.requires.0 c.args.n c.requires.1 c.args.failed _ c.limits_of-limits.ensures _ c.find_members-all.ensures.value c.if-not-all.true in let z = no_member w c.requires.0 c.args.failed c.args.deleted.now c.args.line.now long passed e in record { w_after = z.0; value = z.1.0; deleted_after = z.1.1.0; line_after = z.1.1.1.0; w_unchanged = z.1.1.1.1.0; leaves = z.1.1.1.1.1 }

pub indexes_of-indexes-requires : goal.indexes_of-indexes-requires
indexes_of-indexes-requires c =
    let few : c.args.n ≤ 16 = omega (arith, (sound_words c.args.w.now c.requires.0).few, c.requires.1) in
    let there : no_member_of (run_of c.args.w.now) c.args.failed ≡ false = members_there c.args.w.now c.requires.0 c.args.n c.requires.1 c.args.failed _ c.limits_of-limits.ensures _ c.find_members-all.ensures.value c.if-not-all.false in
    let w = c.args.w.now in let n = c.args.n in (
      (sound_words w c.requires.0).size,
      few,
      some_own w c.requires.0 n c.requires.1,
      most_kept_count w c.requires.0 n c.requires.1,
      all_used w c.requires.0 n c.requires.1,
      members_found w c.requires.0 n c.requires.1 c.args.failed _ c.limits_of-limits.ensures _ c.find_members-all.ensures.pasts_after there,
    )

pub owns_after-owns-requires : goal.owns_after-owns-requires
owns_after-owns-requires c =
    let there : no_member_of (run_of c.args.w.now) c.args.failed ≡ false = members_there c.args.w.now c.requires.0 c.args.n c.requires.1 c.args.failed _ c.limits_of-limits.ensures _ c.find_members-all.ensures.value c.if-not-all.false in
    let small : (k : ℕ) → word c.args.w.now k < 65536 = λ k. omega (arith, c.slice_known-1.given k) in
    let pasts_are : let w = c.args.w.now in c.find_members-all.new.pasts ≡ pasts_in w (count_of w) (limits_in w (count_of w) c.args.failed) = found-are c.args.w.now c.requires.0 c.args.n c.requires.1 c.args.failed _ c.limits_of-limits.ensures _ c.find_members-all.ensures.pasts_after in
    let w = c.args.w.now in ((sound_words w c.requires.0).size, all_returning w c.requires.0 c.args.failed there small _ pasts_are)

pub count_rolled_back-back-requires : goal.count_rolled_back-back-requires
count_rolled_back-back-requires c =
    let few : c.args.n ≤ 16 = omega (arith, (sound_words c.args.w.now c.requires.0).few, c.requires.1) in
    let room = pasts_room c.args.w.now c.requires.0 c.args.n c.requires.1 c.args.failed _ c.limits_of-limits.ensures _ c.find_members-all.ensures.pasts_after in ((sound_words c.args.w.now c.requires.0).size, few, room)

pub write_line-requires : goal.write_line-requires
write_line-requires c =
    let few : c.args.n ≤ 16 = omega (arith, (sound_words c.args.w.now c.requires.0).few, c.requires.1) in
    (few, c.requires.3)

pub restore_all-gone-requires : goal.restore_all-gone-requires
restore_all-gone-requires c =
    let there : no_member_of (run_of c.args.w.now) c.args.failed ≡ false = members_there c.args.w.now c.requires.0 c.args.n c.requires.1 c.args.failed _ c.limits_of-limits.ensures _ c.find_members-all.ensures.value c.if-not-all.false in
    let small : (k : ℕ) → word c.args.w.now k < 65536 = λ k. omega (arith, c.slice_known-1.given k) in
    let pasts_are : let w = c.args.w.now in c.find_members-all.new.pasts ≡ pasts_in w (count_of w) (limits_in w (count_of w) c.args.failed) = found-are c.args.w.now c.requires.0 c.args.n c.requires.1 c.args.failed _ c.limits_of-limits.ensures _ c.find_members-all.ensures.pasts_after in
    let w = c.args.w.now in (c.requires.0, c.requires.1, c.requires.2, all_restorable w c.requires.0 c.args.failed there small c.args.n _ c.requires.1 pasts_are)

pub sift-requires : goal.sift-requires
sift-requires c =
    senders_still c.args.w.now _ _ _ c.args.n c.requires.0 c.restore_all-gone.ensures.restored

pub returns : goal.returns
returns c =
    let long : let a = c.args in let n = count_of a.w.now in (ltb (length a.deleted.now) (2 * n * n) || ltb (length a.line.now) n) ≡ false = neither c.args.n (count_of c.args.w.now) (length c.args.deleted.now) (length c.args.line.now) c.requires.1 c.requires.2 c.requires.3 in
    let passed : recovery_admission_of (count_of c.args.w.now) c.args.failed ≡ Ok tt = ap (λ (k : ℕ). recovery_admission_of k c.args.failed) (sym c.requires.1) ∙ c.requires.4 in
    let there : no_member_of (run_of c.args.w.now) c.args.failed ≡ false = members_there c.args.w.now c.requires.0 c.args.n c.requires.1 c.args.failed _ c.limits_of-limits.ensures _ c.find_members-all.ensures.value c.if-not-all.false in
    let pasts_are : let w = c.args.w.now in c.find_members-all.new.pasts ≡ pasts_in w (count_of w) (limits_in w (count_of w) c.args.failed) = found-are c.args.w.now c.requires.0 c.args.n c.requires.1 c.args.failed _ c.limits_of-limits.ensures _ c.find_members-all.ensures.pasts_after in
    let w = c.args.w.now in let z = recovers w c.requires.0 c.args.failed c.args.deleted.now c.args.line.now long passed there c.args.n _ _ _ c.requires.1 pasts_are
    c.indexes_of-indexes.ensures c.owns_after-owns.ensures _ _ c.restore_all-gone.ensures.restored c.sift.ensures _ _ _ _ c.count_rolled_back-back.ensures c.restore_all-gone.ensures.value
    c.restore_all-gone.ensures.deleted_after c.write_line.ensures in record { w_after = z.0; value = z.1.0; deleted_after = z.1.1.0; line_after = z.1.1.1.0; w_unchanged = z.1.1.1.1.0; leaves = z.1.1.1.1.1 }
