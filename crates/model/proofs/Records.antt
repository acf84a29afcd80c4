-- Records and events: every well-formed record stands for one event, and every event that fits the fields has one record.
-- A record goes to its word of 32 bits, to its three fields, to its event; each of these steps is undone by the step back.
-- Assumes nothing.
use Rattle.std.specs.Prelude.{◌≡◌, ◌&&◌, ◌∷◌, ◌/◌, ◌%◌, ◌≤◌, ◌<◌}
use Rattle.laws.specs.Basics.{refl, sym, ◌∙◌, ap, true, false≢true, List, [], Option, None, Some, ℕ, zero, suc, arith, eqb, ltb, length, eqb-true, lt-ltb, ltb-true, by_bool}
use Rattle.laws.specs.{Options.some_same, Options.none≢some, Truth.and_left, Truth.and_right, Tests.every}
use Rattle.model.specs.declared.{Fields.Fields, Event.Event}
use Rattle.model.specs.declared.Event.TheVariants.{Checkpoint, Send, Deliver, Lose, Recover}
use Rattle.model.specs.Trace.{word, fields, if_zero_of, event_of_def, decoded, is_record, stands, well_formed, fields_of, fits, word_of_def, bytes_of_def, encoded, RecordsAreEvents}

-- A record of fields, by its parts.
abbrev parts : ℕ → ℕ → ℕ → Fields
parts k p a = record { kind = k; process = p; argument = a }

same_parts : {k l p q a b : ℕ} → k ≡ l → p ≡ q → a ≡ b → parts k p a ≡ parts l q b
same_parts e f g = rw (e, f, g)

-- The fields of an event stand for that event.
event_of_fields : (e : Event) → event_of_def (fields_of e) ≡ Some e
unfolding event_of_def fields_of if_zero_of
event_of_fields (Checkpoint i) = refl
event_of_fields (Send i j) = refl
event_of_fields (Deliver m) = refl
event_of_fields (Lose m) = refl
event_of_fields (Recover F) = refl

-- What must be zero is zero where it stands for an event.
if_zero_lem : (n : ℕ) (d e : Event) → if_zero_of n d ≡ Some e → (n ≡ 0) × (d ≡ e)
unfolding if_zero_of
if_zero_lem zero d e h = (refl, cc)
if_zero_lem (suc n) d e h = absurd (let z : ◌≡◌ {A = ℕ} 0 1 = cc in omega arith)

-- A record of a kind whose process must be zero.
process_zero : (r : Fields) (k : ℕ) (d e : Event) → fields_of d ≡ parts k 0 r.argument → eqb r.kind k ≡ true → if_zero_of r.process d ≡ Some e → fields_of e ≡ r
process_zero r k d e f same h =
    let w = if_zero_lem _ _ _ h in
    rw (← w.1) (f ∙ same_parts (sym (eqb-true _ _ same)) (sym w.0) refl)

-- Fields that stand for an event are the fields of that event.
fields_of_event : (r : Fields) (e : Event) → event_of_def r ≡ Some e → fields_of e ≡ r
unfolding event_of_def fields_of
fields_of_event r e h =
    by_bool (eqb r.kind 0)
    (λ k. let w = if_zero_lem _ _ _ (rw k at h) in rw (← w.1) (same_parts (sym (eqb-true _ _ k)) refl (sym w.0)))
    (λ n0. by_bool (eqb r.kind 1)
    (λ k. rw (← some_same (rw (n0, k) at h)) (same_parts (sym (eqb-true _ _ k)) refl refl))
    (λ n1. by_bool (eqb r.kind 2)
    (λ k. process_zero r 2 (Deliver r.argument) e refl k (rw (n0, n1, k) at h))
    (λ n2. by_bool (eqb r.kind 3)
    (λ k. process_zero r 3 (Lose r.argument) e refl k (rw (n0, n1, n2, k) at h))
    (λ n3. by_bool (eqb r.kind 4)
    (λ k. process_zero r 4 (Recover r.argument) e refl k (rw (n0, n1, n2, n3, k) at h))
    (λ n4. absurd (none≢some (rw (n0, n1, n2, n3, n4) at h)))))))

-- No event has a kind above 4.
pub kind_small : (e : Event) → (fields_of e).kind ≤ 4
unfolding fields_of
kind_small (Checkpoint i) = omega arith
kind_small (Send i j) = omega arith
kind_small (Deliver m) = omega arith
kind_small (Lose m) = omega arith
kind_small (Recover F) = omega arith

-- The word of the fields of a word is that word.
word_of_fields : (bytes : List ℕ) → word_of_def (fields bytes) ≡ word bytes
unfolding word_of_def fields
word_of_fields bytes = omega arith

-- The fields of an event that fits them come back from any bytes that are their word.
fields_of_word : (r : Fields) (bytes : List ℕ) → r.process < 16 → r.argument < 33554432 → word bytes ≡ word_of_def r → fields bytes ≡ r
unfolding word_of_def fields
fields_of_word r bytes p a h = same_parts (omega arith) (omega arith) (omega arith)

-- Four bytes and the word of 32 bits that they are: one goes to the other and back.
same_bytes : {a b c d e f g h : ℕ} → a ≡ e → b ≡ f → c ≡ g → d ≡ h → ◌≡◌ {A = List ℕ} (a ∷ b ∷ c ∷ d ∷ []) (e ∷ f ∷ g ∷ h ∷ [])
same_bytes p q r s = cc

bytes_back : (a b c d : ℕ) → a < 256 → b < 256 → c < 256 → d < 256 → bytes_of_def (word (a ∷ b ∷ c ∷ d ∷ [])) ≡ a ∷ b ∷ c ∷ d ∷ []
unfolding word bytes_of_def
bytes_back a b c d ha hb hc hd = same_bytes (omega arith) (omega arith) (omega arith) (omega arith)

first_byte : (a : ℕ) (l : List ℕ) → every (λ b. ltb b 256) (a ∷ l) ≡ true → a < 256
unfolding every
first_byte a l h = ltb-true a 256 (and_left (ltb a 256) (every (λ b. ltb b 256) l) h)

other_bytes : (a : ℕ) (l : List ℕ) → every (λ b. ltb b 256) (a ∷ l) ≡ true → every (λ b. ltb b 256) l ≡ true
unfolding every
other_bytes a l h = and_right (ltb a 256) (every (λ b. ltb b 256) l) h

bytes_of_word : (bytes : List ℕ) → length bytes ≡ 4 → every (λ b. ltb b 256) bytes ≡ true → bytes_of_def (word bytes) ≡ bytes
bytes_of_word [] n h = absurd (omega arith)
bytes_of_word (a ∷ []) n h = absurd (omega arith)
bytes_of_word (a ∷ b ∷ []) n h = absurd (omega arith)
bytes_of_word (a ∷ b ∷ c ∷ []) n h = absurd (omega arith)
bytes_of_word (a ∷ b ∷ c ∷ d ∷ []) n h =
    let h1 = other_bytes a (b ∷ c ∷ d ∷ []) h in
    let h2 = other_bytes b (c ∷ d ∷ []) h1 in
    let h3 = other_bytes c (d ∷ []) h2 in
    bytes_back a b c d (first_byte a (b ∷ c ∷ d ∷ []) h) (first_byte b (c ∷ d ∷ []) h1) (first_byte c (d ∷ []) h2) (first_byte d [] h3)
bytes_of_word (a ∷ b ∷ c ∷ d ∷ e ∷ l) n h = absurd (omega arith)

word_of_bytes : (w : ℕ) → w < 4294967296 → word (bytes_of_def w) ≡ w
unfolding word bytes_of_def
word_of_bytes w h = omega arith

four_bytes : (w : ℕ) → w < 4294967296 → is_record (bytes_of_def w) ≡ true
unfolding is_record bytes_of_def every
four_bytes w h = rw (lt-ltb (w / 16777216) 256 (omega arith), lt-ltb (w / 65536 % 256) 256 (omega arith), lt-ltb (w / 256 % 256) 256 (omega arith), lt-ltb (w % 256) 256 (omega arith))

-- The fields of a word fit.
fields_small : (bytes : List ℕ) → (ltb (fields bytes).process 16 && ltb (fields bytes).argument 33554432) ≡ true
unfolding fields
fields_small bytes = rw (lt-ltb (word bytes / 33554432 % 16) 16 (omega arith), lt-ltb (word bytes % 33554432) 33554432 (omega arith))

-- The event that a well-formed record stands for.
the_event : (o : Option Event) → stands o ≡ true → (e : Event) × (o ≡ Some e)
unfolding stands
the_event None h = absurd (false≢true h)
the_event (Some e) h = (e, refl)

one_event : (bytes : List ℕ) → well_formed bytes ≡ true → (e : Event) × (decoded bytes ≡ Some e) × (fits e ≡ true) × (encoded e ≡ Some bytes)
unfolding well_formed decoded fits encoded is_record
one_event bytes h =
    let r = and_left (is_record bytes) (stands (decoded bytes)) h in
    let four = eqb-true (length bytes) 4 (and_left (eqb (length bytes) 4) (every (λ b. ltb b 256) bytes) r) in
    let small = and_right (eqb (length bytes) 4) (every (λ b. ltb b 256) bytes) r in
    let w = the_event (decoded bytes) (and_right (is_record bytes) (stands (decoded bytes)) h) in
    let same : fields_of w.0 ≡ fields bytes = fields_of_event (fields bytes) w.0 w.1 in
    let fit : fits w.0 ≡ true = rw same (fields_small bytes) in
    (w.0, w.1, fit, rw fit (ap Some (ap bytes_of_def (ap word_of_def same ∙ word_of_fields bytes) ∙ bytes_of_word bytes four small)))

one_record : (e : Event) → fits e ≡ true → (bytes : List ℕ) × (encoded e ≡ Some bytes) × (is_record bytes ≡ true) × (well_formed bytes ≡ true) × (decoded bytes ≡ Some e)
unfolding well_formed decoded fits encoded word_of_def stands
one_record e h =
    let p : (fields_of e).process < 16 = ltb-true (fields_of e).process 16 (and_left (ltb (fields_of e).process 16) (ltb (fields_of e).argument 33554432) h) in
    let a : (fields_of e).argument < 33554432 = ltb-true (fields_of e).argument 33554432 (and_right (ltb (fields_of e).process 16) (ltb (fields_of e).argument 33554432) h) in
    let w : word_of_def (fields_of e) < 4294967296 = omega (arith, kind_small e) in
    let bytes = bytes_of_def (word_of_def (fields_of e)) in
    let four : is_record bytes ≡ true = four_bytes (word_of_def (fields_of e)) w in
    let event : decoded bytes ≡ Some e = rw (fields_of_word (fields_of e) bytes p a (word_of_bytes (word_of_def (fields_of e)) w)) (event_of_fields e) in
    (bytes, rw h, four, rw (four, event), event)

no_second_record : (one other : List ℕ) → well_formed one ≡ true → well_formed other ≡ true → decoded one ≡ decoded other → one ≡ other
no_second_record one other g h same =
    let v = one_event one g in
    let w = one_event other h in
    let e : v.0 ≡ w.0 = some_same (sym v.1 ∙ same ∙ w.1) in
    some_same (sym v.3 ∙ ap encoded e ∙ w.3)

pub records_are_events : RecordsAreEvents
records_are_events = record { one_event = one_event; one_record = one_record; no_second_record = no_second_record }
