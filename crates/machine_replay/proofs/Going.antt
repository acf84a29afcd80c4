-- Where a replay stands after the bytes that it read: the records taken are the first of them, their lines are written, and the bytes held are the others.
-- Assumes nothing.
use Rattle.std.specs.Prelude.{◌≡◌, ◌&&◌, ◌∷◌, ◌++◌, ◌+◌, ◌*◌, ◌/◌, ◌≤◌, ◌<◌}
use Rattle.laws.specs.Basics.{refl, sym, ◌∙◌, ap, Bool, true, false, List, [], append-nil, append_assoc, None, ℕ, arith, ltb, length, take, drop, length-append, length-drop, length-take-le, ltb-false, pick, by_bool}
use lib.ListN.{take-append-drop}
use lib.Seq.{take-append-le, drop-append-le, take-add, drop-drop}
use Rattle.model.specs.declared.Run.{Run}
use Rattle.model.specs.{Words.ones, Refusals.start_refusal, Steps.start_state}
use Rattle.whole_runs.specs.Listing.{most_records, records, goes_on_after_all, state_after_records, started, listing}
use Rattle.whole_runs.proofs.Blocks.{past_limit, block_by_block, goes_on_by_block, states_by_block}
use Rattle.machine_replay.specs.{Replaying.Between, Printing.lines_of, Printing.goes_on_after, Printing.is_start}

pub record Going (read written : List ℕ) (b : Between) : Type 0 where
  pub n : ℕ
  pub rest : List ℕ
  pub is_read : read ≡ n ∷ rest
  pub accepted : start_refusal n ones ≡ None
  pub taken : 4 * b.done ≤ length rest
  pub below : length rest ≤ 4 * most_records
  pub less : b.done < most_records
  pub state : b.run ≡ state_after_records (start_state n ones) (take (4 * b.done) rest)
  pub bytes : b.buffered ≡ drop (4 * b.done) rest
  pub goes : goes_on_after_all b.all (start_state n ones) (take (4 * b.done) rest) ≡ true
  pub lines : written ≡ records b.all 0 (start_state n ones) (take (4 * b.done) rest)

-- Nothing is taken yet.
pub begun_going : (all : Bool) (n : ℕ) → start_refusal n ones ≡ None → Going (n ∷ []) [] (record { all = all; done = 0; run = start_state n ones; buffered = [] })
unfolding state_after_records goes_on_after_all records
begun_going all n ok = record { n = n; rest = []; is_read = refl; accepted = ok; taken = omega arith; below = omega arith; less = omega arith; state = refl; bytes = refl; goes = refl; lines = refl }

module _ (read written : List ℕ) (b : Between) (g : Going read written b) where
  abbrev first : Run
  first = start_state g.n ones

  abbrev d : ℕ
  d = 4 * b.done

  abbrev part : List ℕ
  part = take d g.rest

  part_length : length part ≡ d
  part_length = length-take-le d g.rest g.taken

  pub buffered_length : length g.rest ≡ d + length b.buffered
  buffered_length = omega (arith, g.taken, ap length g.bytes, length-drop d g.rest)

  pub read_length : length read ≡ 1 + (d + length b.buffered)
  read_length = omega (arith, ap length g.is_read, buffered_length)

  -- What is still to be written.
  pub owed : (unread : List ℕ) → listing b.all (read ++ unread) ≡ written ++ records b.all b.done b.run (b.buffered ++ unread)
  unfolding listing started
  owed unread =
      let zero_then : 0 + b.done ≡ b.done = omega arith in
      rw (g.is_read, g.accepted)
      (ap (records b.all 0 first) (ap (λ (l : List ℕ). l ++ unread) (sym (take-append-drop d g.rest) ∙ ap (λ (l : List ℕ). part ++ l) (sym g.bytes)) ∙ append_assoc part b.buffered unread)
      ∙ block_by_block b.all b.done 0 first part (b.buffered ++ unread) part_length
      ∙ rw (g.goes, ← g.lines, ← g.state, zero_then))

  -- More is read.
  pub going_filled : (l : List ℕ) → length g.rest + length l ≤ 4 * most_records → Going (read ++ l) written (record { all = b.all; done = b.done; run = b.run; buffered = b.buffered ++ l })
  going_filled l below = record {
    n = g.n;
    rest = g.rest ++ l;
    is_read = ap (λ (x : List ℕ). x ++ l) g.is_read;
    accepted = g.accepted;
    taken = omega (arith, g.taken, length-append g.rest l);
    below = omega (arith, below, length-append g.rest l);
    less = g.less;
    state = g.state ∙ ap (state_after_records first) (sym (take-append-le d g.rest l g.taken));
    bytes = ap (λ (x : List ℕ). x ++ l) g.bytes ∙ sym (drop-append-le d g.rest l g.taken);
    goes = rw (take-append-le d g.rest l g.taken) g.goes;
    lines = g.lines ∙ ap (records b.all 0 first) (sym (take-append-le d g.rest l g.taken));
  }

  -- Records are taken.
  module _ (k : ℕ) (fits : 4 * k ≤ length b.buffered) where
    abbrev more : List ℕ
    more = take (4 * k) b.buffered

    abbrev then_run : Run
    then_run = state_after_records b.run more

    abbrev then_lines : List ℕ
    then_lines = records b.all b.done b.run more

    more_length : length more ≡ 4 * k
    more_length = length-take-le (4 * k) b.buffered fits

    both : take (4 * (b.done + k)) g.rest ≡ part ++ more
    both =
        let sum : 4 * (b.done + k) ≡ d + 4 * k = omega arith in
        rw sum (take-add d (4 * k) g.rest ∙ ap (λ (l : List ℕ). part ++ take (4 * k) l) (sym g.bytes))

    -- What is still to be written then.
    pub owed_then : (unread : List ℕ) → listing b.all (read ++ unread)
        ≡ written ++ (then_lines ++ pick (goes_on_after_all b.all b.run more) (records b.all (b.done + k) then_run (drop (4 * k) b.buffered ++ unread)) [])
    owed_then unread =
        owed unread
        ∙ ap (λ (l : List ℕ). written ++ records b.all b.done b.run l)
        (ap (λ (l : List ℕ). l ++ unread) (sym (take-append-drop (4 * k) b.buffered)) ∙ append_assoc more (drop (4 * k) b.buffered) unread)
        ∙ ap (λ (l : List ℕ). written ++ l) (block_by_block b.all k b.done b.run more (drop (4 * k) b.buffered ++ unread) more_length)

    pub going_taken : goes_on_after_all b.all b.run more ≡ true → b.done + k < most_records
        → Going read (written ++ then_lines) (record { all = b.all; done = b.done + k; run = then_run; buffered = drop (4 * k) b.buffered })
    going_taken on less = record {
      n = g.n;
      rest = g.rest;
      is_read = g.is_read;
      accepted = g.accepted;
      taken = omega (arith, buffered_length);
      below = g.below;
      less = less;
      state = ap (λ (r : Run). state_after_records r more) g.state ∙ sym (states_by_block b.done first part more part_length) ∙ ap (state_after_records first) (sym both);
      bytes = let sum : 4 * (b.done + k) ≡ d + 4 * k = omega arith in ap (drop (4 * k)) g.bytes ∙ drop-drop (4 * k) d g.rest ∙ ap (λ (x : ℕ). drop x g.rest) (sym sum);
      goes = rw both (goes_on_by_block b.all b.done first part more part_length ∙ rw (g.goes, ← g.state, on));
      lines = let zero_then : 0 + b.done ≡ b.done = omega arith in
          sym (ap (records b.all 0 first) both
          ∙ block_by_block b.all b.done 0 first part more part_length
          ∙ rw (g.goes, ← g.lines, ← g.state, zero_then));
    }

    -- Nothing more is written where the replay stops.
    pub owed_last : (goes_on_after_all b.all b.run more && ltb (b.done + k) most_records) ≡ false → (unread : List ℕ) → listing b.all (read ++ unread) ≡ written ++ then_lines
    owed_last stops unread = by_bool (goes_on_after_all b.all b.run more)
        (λ e. owed_then unread
        ∙ rw (e, past_limit b.all (b.done + k) then_run (drop (4 * k) b.buffered ++ unread) (omega (arith, ltb-false (b.done + k) most_records (rw e at stops))))
        (ap (λ (l : List ℕ). written ++ l) (append-nil then_lines)))
        (λ e. owed_then unread ∙ rw e (ap (λ (l : List ℕ). written ++ l) (append-nil then_lines)))

  -- Where less than a record is held.
  module _ (few : length b.buffered < 4) where
    short_goes_on : (s : Run) (l : List ℕ) → length l < 4 → goes_on_after_all b.all s l ≡ true
    unfolding goes_on_after_all
    short_goes_on s [] h = refl
    short_goes_on s (x ∷ []) h = refl
    short_goes_on s (x ∷ y ∷ []) h = refl
    short_goes_on s (x ∷ y ∷ z ∷ []) h = refl
    short_goes_on s (x ∷ y ∷ z ∷ u ∷ l) h = absurd (omega arith)

    pub lines_so_far : written ≡ lines_of b.all read
    unfolding lines_of listing started
    lines_so_far =
        let whole : 4 * (length g.rest / 4) ≡ d = omega (arith, buffered_length, few) in
        g.lines ∙ sym (rw (g.is_read, whole, g.accepted))

    pub goes_on_after_lem : goes_on_after b.all read ≡ true
    unfolding goes_on_after is_start
    goes_on_after_lem =
        rw (g.is_read, g.accepted)
        (ap (goes_on_after_all b.all first) (sym (take-append-drop d g.rest) ∙ ap (λ (l : List ℕ). part ++ l) (sym g.bytes))
        ∙ goes_on_by_block b.all b.done first part b.buffered part_length
        ∙ rw (g.goes, short_goes_on (state_after_records first part) b.buffered few))
