-- A process goes back to its member or stays live, and then has the pins of a recovery: what that leaves is what specs/Restored says.
-- Assumes nothing.
use Rattle.std.specs.Prelude.{◌≡◌, ◌∷◌, ◌+◌, ◌-◌, ◌*◌, ◌≤◌, ◌<◌}
use Rattle.laws.specs.Basics.{refl, sym, ◌∙◌, ap, true, false, not, List, [], ℕ, zero, suc, arith, eqb, length, get_or, length-set, sets, eqb-true, le-leb, lt-leb, pick, by_bool}
use lib.Seq.{ext_get_or}
use Rattle.laws.specs.{Elements.every_table, Lists.select, Lists.table, Rows.and_true, Search.all_below, Search.all_out, Select.all_chosen, Select.none_chosen}
use Rattle.laws.specs.{Tables.get_d_table, Tables.table_same, Tests.every, Truth.and_no_right}
use Rattle.model.specs.Shapes.{Pin}
use Rattle.model.specs.declared.Interval.{Interval}
use Rattle.model.specs.{Words.entry, Words.is_pinned, Steps.listed, Steps.billed, Steps.advanced}
use Rattle.whole_runs.specs.Outcomes.{pairs}
use Rattle.words.specs.{Clean.CleanKept, Frames.OnlyProcess, Parts.process_in, Puts.Put, Puts.puts, Puts.one, Puts.vector_put}
use Rattle.words.specs.Layout.{word, wide4, kept_count_at_of, mark_at, blocks_at_of, part_at, pins_at_of, index_at_of, cause_at_of, stored_at, row_in, vector_in, pins_in, mark_in, checkpoint_in}
use Rattle.words.proofs.{Frames.process_then, Frames.process_stays, Frames.disk_stays, Reading.puts_length, Reading.untouched, Reading.touched, View.kept_table}
use Rattle.words.proofs.Same.{row_length, vector_length, vector_same, vector_is, checkpoint_moved}
use Rattle.words_line.specs.Restored.{known_row, found_in_of}
use Rattle.words_process.specs.{Kept.Used, Kept.AllPinned, Moves.disk_in, Moves.Moves, Pins.pin_row, Steps.places_of, Steps.unpinned_in}
use Rattle.words_process.proofs.PinRows.{pins_row}
use Rattle.in_place_recover.proofs.Found.{known_at_lem, known_length}
use Rattle.in_place_recover.specs.Restored.{goes_back, restored_vector, restored_pins, pinned_part, restored_part, restored_gone}

-- Process p goes back: another vector is put, and its mark is cleared.
module _ (w : List ℕ) (size : length w ≡ 6464) (p : ℕ) (room : p < 16) (x : List Interval) where
  abbrev l : List Put
  l = vector_put (part_at p) x ∷ one (mark_at p) 0 ∷ []

  abbrev pub backed : List ℕ
  backed = puts w l

  backed_low : (q : ℕ) → q < 64 + 320 * p → (q ≡ mark_at p → ⊥) → word backed q ≡ word w q
  backed_low q less ne = untouched w l q (λ a b. omega arith, (λ a b. ne (omega arith), tt))

  backed_high : (q : ℕ) → 80 + 320 * p ≤ q → word backed q ≡ word w q
  backed_high q more = untouched w l q (omega arith)

  pub backed_kept_count : word backed (kept_count_at_of p) ≡ word w (kept_count_at_of p)
  backed_kept_count = backed_low (kept_count_at_of p) (omega arith) (λ e. omega arith)

  pub backed_blocks : word backed (blocks_at_of p) ≡ word w (blocks_at_of p)
  backed_blocks = backed_low (blocks_at_of p) (omega arith) (λ e. omega arith)

  backed_checkpoint : (k : ℕ) → k < 16 → checkpoint_in backed p k ≡ checkpoint_in w p k
  backed_checkpoint k lt = checkpoint_moved backed w p p k k (backed_high (index_at_of p k) (omega arith)) (backed_high (cause_at_of p k) (omega arith)) backed_blocks
      (λ f less. backed_high (stored_at p k + f) (omega arith))

  pub backed_used : word w (kept_count_at_of p) ≤ 16 → Used w p (word w (kept_count_at_of p)) → Used backed p (word backed (kept_count_at_of p))
  unfolding Used
  backed_used most used k lt = omega (arith, used k (omega (arith, backed_kept_count)), backed_high (index_at_of p k) (omega (arith, backed_kept_count)))

  pub backed_disk : disk_in backed ≡ disk_in w
  backed_disk = λ j. record {
    written = (let e : wide4 backed 4 ≡ wide4 w 4 = rw (low 4 (omega arith), low 5 (omega arith), low 6 (omega arith), low 7 (omega arith)) in e) j;
    deleted = (let e : wide4 backed 8 ≡ wide4 w 8 = rw (low 8 (omega arith), low 9 (omega arith), low 10 (omega arith), low 11 (omega arith)) in e) j;
  }
    where
      low : (k : ℕ) → k < 12 → word backed k ≡ word w k
      low k lt = backed_low k (omega arith) (λ e. omega arith)

  pub backed_found : (owns : List Interval) (n : ℕ) → n ≤ 16 → found_in_of backed owns p n ≡ found_in_of w owns p n
  unfolding found_in_of
  backed_found owns zero le = refl
  backed_found owns (suc n) le = rw (
    backed_found owns n (omega arith),
    vector_same backed w (stored_at p n) (stored_at p n) (λ f less. backed_high (stored_at p n + f) (omega arith)),
    backed_high (index_at_of p n) (omega arith),
  )

  module _ (most : word w (kept_count_at_of p) ≤ 16) where
    backed_places : places_of backed p ≡ places_of w p
    unfolding places_of
    backed_places = ap (λ (n : ℕ). table n (checkpoint_in backed p)) backed_kept_count
        ∙ table_same (word w (kept_count_at_of p)) (checkpoint_in backed p) (checkpoint_in w p) (λ k lt. backed_checkpoint k (omega arith))

    pub backed_unpinned : (pins : List Pin) → unpinned_in backed p pins ≡ unpinned_in w p pins
    unfolding unpinned_in
    backed_unpinned pins = ap (select (λ c. not (is_pinned pins c))) backed_places

    backed_mark : mark_in backed p ≡ false
    unfolding mark_in
    backed_mark = ap (λ (n : ℕ). not (eqb n 0)) (touched w l 1 0 (mark_at p) (omega arith, omega arith, omega (arith, size), tt))

    module _ (long : length x ≡ 16) where
      pub backed_vector : vector_in backed (part_at p) ≡ x
      backed_vector = vector_is backed (part_at p) x long (λ f lt. touched w l 0 f (part_at p + f) (refl, lt, omega (arith, size), omega arith))

      backed_part : (pins : List Pin) → pinned_part backed p pins ≡ record { vector = x; pins = pins; mark = false; kept = select (is_pinned pins) (places_of w p) }
      unfolding pinned_part
      backed_part pins = λ j. record { vector = backed_vector j; pins = pins; mark = backed_mark j; kept = select (is_pinned pins) (backed_places j) }

      backed_only : OnlyProcess w backed p
      backed_only = record {
        size = puts_length w l;
        front = λ k lt nh nm. backed_low k (omega arith) nm;
        lower = λ k a b. backed_low k (omega arith) (λ e. omega arith);
        upper = λ k a. backed_high k (omega arith);
      }

      backed_clean : CleanKept w p → CleanKept backed p
      backed_clean h = record {
        index = λ k le lt. backed_high (index_at_of p k) (omega arith) ∙ h.index k (omega (arith, backed_kept_count)) lt;
        cause = λ k le lt. backed_high (cause_at_of p k) (omega arith) ∙ h.cause k (omega (arith, backed_kept_count)) lt;
        vector = λ k f le lt less. backed_high (stored_at p k + f) (omega arith) ∙ h.vector k f (omega (arith, backed_kept_count)) lt less;
      }

      pub backed_moves : (pins : List Pin) (gone : ℕ) (y : List ℕ) → Moves backed p (pinned_part backed p pins) (billed (disk_in backed) 0 (gone * word backed (blocks_at_of p))) y
          → Moves w p (record { vector = x; pins = pins; mark = false; kept = select (is_pinned pins) (places_of w p) }) (billed (disk_in w) 0 (gone * word w (blocks_at_of p))) y
      backed_moves pins gone y m = record {
        between = m.between;
        process = process_then w backed m.between p backed_only m.process;
        part = m.part ∙ backed_part pins;
        kept_count = m.kept_count;
        clean = λ h. m.clean (backed_clean h);
        disk = m.disk;
        blocks = m.blocks ∙ (λ j. billed (backed_disk j) 0 (gone * backed_blocks j));
      }

-- A process whose member is stored has gone back, which left u, and then has these pins.
module _ (w : List ℕ) (size : length w ≡ 6464) (p : ℕ) (room : p < 16) (past : ℕ) (owns : List Interval) (le : past ≤ word w (kept_count_at_of p)) (most : word w (kept_count_at_of p) ≤ 16) where
  abbrev pub stored : List Interval
  stored = advanced p (vector_in w (stored_at p (past - 1)))

  back : goes_back w p past ≡ true
  back = le-leb past (word w (kept_count_at_of p)) le

  long : length stored ≡ 16
  unfolding advanced
  long = length-set (vector_in w (stored_at p (past - 1))) p _ ∙ vector_length w (stored_at p (past - 1))

  module _ (u : List ℕ) (e : u ≡ backed w size p room stored) where
    pub stored_ready : Used w p (word w (kept_count_at_of p)) → (disk_in u ≡ disk_in w) × (word u (kept_count_at_of p) ≡ word w (kept_count_at_of p)) × Used u p (word u (kept_count_at_of p))
    stored_ready used = rw e (backed_disk w size p room stored, backed_kept_count w size p room stored, backed_used w size p room stored most used)

    module _ (v : List Interval) (found r : List ℕ) (a : v ≡ vector_in u (part_at p)) (b : found ≡ found_in_of u owns p past) (c : r ≡ known_row v owns found) where
      stored_pins : r ≡ restored_pins w p past owns
      unfolding restored_pins restored_vector
      stored_pins =
          let x : v ≡ stored = a ∙ ap (λ (q : List ℕ). vector_in q (part_at p)) e ∙ backed_vector w size p room stored most long in
          let y : found ≡ found_in_of w owns p past = b ∙ ap (λ (q : List ℕ). found_in_of q owns p past) e ∙ backed_found w size p room stored owns past (omega arith) in
          c ∙ rw (x, y, back)

      stored_part : record { vector = stored; pins = pin_row r; mark = false; kept = select (is_pinned (pin_row r)) (places_of w p) } ≡ restored_part w p past owns
      unfolding restored_part restored_vector
      stored_part = rw (stored_pins, back) (λ j. record {
        vector = stored;
        pins = pin_row (restored_pins w p past owns);
        mark = sym (and_no_right (mark_in w p) false refl) j;
        kept = select (is_pinned (pin_row (restored_pins w p past owns))) (places_of w p);
      })

      pub stored_gone : unpinned_in u p (pin_row r) ≡ restored_gone w p past owns
      unfolding restored_gone
      stored_gone = ap (λ (q : List ℕ). unpinned_in q p (pin_row r)) e ∙ backed_unpinned w size p room stored most (pin_row r) ∙ ap (λ (q : List ℕ). unpinned_in w p (pin_row q)) stored_pins

      pub stored_moves : (gone : ℕ) (y : List ℕ) → Moves u p (pinned_part u p (pin_row r)) (billed (disk_in u) 0 (gone * word u (blocks_at_of p))) y
          → Moves w p (restored_part w p past owns) (billed (disk_in w) 0 (gone * word w (blocks_at_of p))) y
      stored_moves gone y m = rw stored_part at (backed_moves w size p room stored most long (pin_row r) gone y (rw e at m))

-- Known pins of which none is less than the old pin are the old ones.
known_same : (v owns : List Interval) (old r over : List ℕ) → length old ≡ 16 → r ≡ known_row v owns old → over ≡ table 16 (λ f. get_or old f 0 - get_or r f 0)
    → all_below 16 (λ f. eqb (get_or over f 0) 0) ≡ true → r ≡ old
known_same v owns old r over long known less none = ext_get_or 0 r old (many ∙ sym long) (λ f lt. alike f (omega (arith, many)))
  where
    many : length r ≡ 16
    many = ap length known ∙ known_length v owns old

    alike : (f : ℕ) → f < 16 → get_or r f 0 ≡ get_or old f 0
    alike f lt =
        let x : get_or r f 0 ≡ pick (eqb (entry v f).0 (entry owns f).0) (get_or old f 0) 0 = ap (λ (l : List ℕ). get_or l f 0) known ∙ known_at_lem v owns old f lt in
        let y : get_or over f 0 ≡ get_or old f 0 - get_or r f 0 = ap (λ (l : List ℕ). get_or l f 0) less ∙ get_d_table 16 (λ f. get_or old f 0 - get_or r f 0) f 0 lt in
        let z : get_or over f 0 ≡ 0 = eqb-true (get_or over f 0) 0 (all_out 16 (λ f. eqb (get_or over f 0) 0) none f lt) in
        by_bool (eqb (entry v f).0 (entry owns f).0)
        (λ e. x ∙ rw e)
        (λ e. let q : get_or r f 0 ≡ 0 = x ∙ rw e in omega arith)

-- A process that stays live.
module _ (w : List ℕ) (p past : ℕ) (owns : List Interval) (less : word w (kept_count_at_of p) < past) (v : List Interval) (old r : List ℕ)
    (a : v ≡ vector_in w (part_at p)) (b : old ≡ row_in w (pins_at_of p)) (c : r ≡ known_row v owns old) where
  stays : goes_back w p past ≡ false
  stays = lt-leb past (word w (kept_count_at_of p)) less

  live_pins : r ≡ restored_pins w p past owns
  unfolding restored_pins restored_vector
  live_pins = c ∙ rw (a, b, stays)

  pub live_part : pinned_part w p (pin_row r) ≡ restored_part w p past owns
  unfolding restored_part restored_vector pinned_part
  live_part = rw (live_pins, stays) (λ j. record {
    vector = vector_in w (part_at p);
    pins = pin_row (restored_pins w p past owns);
    mark = sym (and_true (mark_in w p)) j;
    kept = select (is_pinned (pin_row (restored_pins w p past owns))) (places_of w p);
  })

  pub live_gone : unpinned_in w p (pin_row r) ≡ restored_gone w p past owns
  unfolding restored_gone
  live_gone = rw live_pins

  -- No pin becomes none: a pin names each kept checkpoint, as it did, and nothing changes.
  module _ (over : List ℕ) (d : over ≡ table 16 (λ f. get_or old f 0 - get_or r f 0)) (none : all_below 16 (λ f. eqb (get_or over f 0) 0) ≡ true)
      (most : word w (kept_count_at_of p) ≤ 16) (used : Used w p (word w (kept_count_at_of p))) (all : AllPinned w p (pins_in w (pins_at_of p)) (word w (kept_count_at_of p))) where
    same : r ≡ row_in w (pins_at_of p)
    same = known_same v owns old r over (ap length b ∙ row_length w (pins_at_of p)) c d none ∙ b

    same_pins : pins_in w (pins_at_of p) ≡ pin_row r
    same_pins = pins_row w (pins_at_of p) ∙ ap pin_row (sym same)

    each_pinned : every (is_pinned (pin_row r)) (places_of w p) ≡ true
    unfolding places_of AllPinned
    each_pinned = every_table (is_pinned (pin_row r)) (word w (kept_count_at_of p)) (checkpoint_in w p) (λ k lt. ap (λ (pins : List Pin). is_pinned pins (checkpoint_in w p k)) (sym same_pins) ∙ all k lt)

    kept_same : (process_in w p).kept ≡ select (is_pinned (pin_row r)) (places_of w p)
    unfolding Used places_of
    kept_same = kept_table w p most used ∙ sym (all_chosen (is_pinned (pin_row r)) (places_of w p) each_pinned)

    part_same : process_in w p ≡ pinned_part w p (pin_row r)
    unfolding process_in pinned_part
    part_same = λ j. record { vector = vector_in w (part_at p); pins = same_pins j; mark = mark_in w p; kept = kept_same j }

    pub none_gone : restored_gone w p past owns ≡ []
    unfolding unpinned_in
    none_gone = sym live_gone ∙ none_chosen (is_pinned (pin_row r)) (places_of w p) each_pinned

    bill_none : disk_in w ≡ billed (disk_in w) 0 (0 * word w (blocks_at_of p))
    unfolding billed
    bill_none = λ j. record { written = (let e : wide4 w 4 ≡ wide4 w 4 + 0 = omega arith in e) j; deleted = (let e : wide4 w 8 ≡ wide4 w 8 + 0 * word w (blocks_at_of p) = omega arith in e) j }

    pub none_moves : Moves w p (restored_part w p past owns) (billed (disk_in w) 0 (0 * word w (blocks_at_of p))) w
    none_moves = record {
      between = w;
      process = process_stays w p;
      part = part_same ∙ live_part;
      kept_count = most;
      clean = λ h. h;
      disk = disk_stays w;
      blocks = bill_none;
    }

    pub none_listed : (d : List ℕ) (at : ℕ) → d ≡ sets d at (pairs (listed p (restored_gone w p past owns)))
    unfolding listed pairs
    none_listed d at = rw none_gone

    pub none_many : 0 ≡ length (restored_gone w p past owns)
    none_many = rw none_gone
