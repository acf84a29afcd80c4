-- Places in one list of the surviving history. The interval of an event is the number of checkpoints that stand before it in its list;
-- with it "before" and "after" a state are comparisons of numbers.
use Rattle.std.specs.Prelude.{◌≡◌, ◌∷◌, ◌++◌, ◌⊎◌, ◌+◌, ◌≤◌}
use Rattle.laws.specs.Basics.{refl, sym, ◌∙◌, List, [], inl, inr, ℕ, suc, arith}
use Rattle.histories.specs.History.{HistoryEvent, stored, sent, received, checkpoints}
use Rattle.histories.proofs.Apart.{same_sent, same_received, sent_stored, received_stored, sent_received}

-- The number of checkpoints that one event is: 1 for a checkpoint, else 0.
unfoldable pub weight : HistoryEvent → ℕ
weight stored = 1
weight (sent m) = 0
weight (received m) = 0

-- Event e stands in the list, with g checkpoints before it.
pub data Stands (e : HistoryEvent) : ℕ → List HistoryEvent → Type 0 where
  first : {x : HistoryEvent} {l : List HistoryEvent} {g : ℕ} → e ≡ x → g ≡ 0 → Stands e g (x ∷ l)
  later : {x : HistoryEvent} {l : List HistoryEvent} {g h : ℕ} → Stands e h l → g ≡ weight x + h → Stands e g (x ∷ l)

-- Checkpoints of a list, by its first event.
checkpoints_cons : (x : HistoryEvent) (l : List HistoryEvent) → checkpoints (x ∷ l) ≡ weight x + checkpoints l
unfolding checkpoints weight
checkpoints_cons stored l = omega arith
checkpoints_cons (sent m) l = omega arith
checkpoints_cons (received m) l = omega arith

-- An event in a list that has a first one: that one, or one of the rest.
pub stands_cons : {e x : HistoryEvent} {g : ℕ} {l : List HistoryEvent} → Stands e g (x ∷ l) → ((e ≡ x) × (g ≡ 0)) ⊎ ((h : ℕ) × Stands e h l × (g ≡ weight x + h))
stands_cons (first e z) = inl (e, z)
stands_cons (later {h = h} s z) = inr (h, s, z)

-- Nothing stands in an empty list.
pub stands_nil : {e : HistoryEvent} {g : ℕ} → Stands e g [] → ⊥
stands_nil s = elim s [ ]

-- An event's interval is at most the live one.
pub stands_le : {e : HistoryEvent} {g : ℕ} (l : List HistoryEvent) → Stands e g l → g ≤ checkpoints l
stands_le [] s = absurd (stands_nil s)
stands_le {e = e} {g = g} (x ∷ l) s = elim (stands_cons s) [
  | inl w ↦ omega (arith, w.1)
  | inr w ↦ omega (arith, w.2, stands_le {g = w.0} l w.1, checkpoints_cons x l)
]

-- One more event at the end: the checkpoints.
pub checkpoints_end : (l : List HistoryEvent) (x : HistoryEvent) → checkpoints (l ++ (x ∷ [])) ≡ checkpoints l + weight x
checkpoints_end [] x = omega (arith, checkpoints_cons x [], nothing)
  where
    nothing : checkpoints [] ≡ 0
    nothing = unfold checkpoints in refl
checkpoints_end (y ∷ l) x = omega (arith, checkpoints_cons y (l ++ (x ∷ [])), checkpoints_cons y l, checkpoints_end l x)

-- One more checkpoint at the end.
pub checkpoints_stored : (l : List HistoryEvent) → checkpoints (l ++ (stored ∷ [])) ≡ suc (checkpoints l)
unfolding weight
checkpoints_stored l = omega (arith, checkpoints_end l stored)

-- One more send at the end.
pub checkpoints_sent : (l : List HistoryEvent) (m : ℕ) → checkpoints (l ++ (sent m ∷ [])) ≡ checkpoints l
unfolding weight
checkpoints_sent l m = omega (arith, checkpoints_end l (sent m))

-- One more receipt at the end.
pub checkpoints_received : (l : List HistoryEvent) (m : ℕ) → checkpoints (l ++ (received m ∷ [])) ≡ checkpoints l
unfolding weight
checkpoints_received l m = omega (arith, checkpoints_end l (received m))

-- One more event at the end: what stood in the list stands there still.
pub stands_still : {e : HistoryEvent} {g : ℕ} (l : List HistoryEvent) (x : HistoryEvent) → Stands e g l → Stands e g (l ++ (x ∷ []))
stands_still [] x s = absurd (stands_nil s)
stands_still {e = e} {g = g} (y ∷ l) x s = elim (stands_cons s) [
  | inl w ↦ first w.0 w.1
  | inr w ↦ later (stands_still {g = w.0} l x w.1) w.2
]

-- One more event at the end: it stands in the live interval.
pub stands_end : {x : HistoryEvent} {g : ℕ} (l : List HistoryEvent) → g ≡ checkpoints l → Stands x g (l ++ (x ∷ []))
unfolding checkpoints
stands_end [] q = first refl q
stands_end (y ∷ l) q = later (stands_end l refl) (q ∙ checkpoints_cons y l)

-- One more event at the end: an event is that one, or stood in the list before.
pub stands_cases : {e : HistoryEvent} {g : ℕ} (l : List HistoryEvent) (x : HistoryEvent) → Stands e g (l ++ (x ∷ [])) → ((e ≡ x) × (g ≡ checkpoints l)) ⊎ Stands e g l
unfolding checkpoints
stands_cases [] x s = elim (stands_cons s) [ inl w ↦ inl w | inr w ↦ absurd (stands_nil w.1) ]
stands_cases {e = e} {g = g} (y ∷ l) x s = elim (stands_cons s) [
  | inl w ↦ inr (first w.0 w.1)
  | inr w ↦ elim (stands_cases {g = w.0} l x w.1) [
    | inl z ↦ inl (z.0, omega (arith, w.2, z.1, checkpoints_cons y l))
    | inr z ↦ inr (later z w.2)
  ]
]

-- A send, in a list with one more checkpoint, receipt or send.
pub sent_before_stored : {m g : ℕ} (l : List HistoryEvent) → Stands (sent m) g (l ++ (stored ∷ [])) → Stands (sent m) g l
sent_before_stored {m} l s = elim (stands_cases l stored s) [ inl w ↦ absurd (sent_stored m w.0) | inr z ↦ z ]

-- A send, after which a receipt was added, stood there before.
pub sent_before_received : {m g : ℕ} (l : List HistoryEvent) (k : ℕ) → Stands (sent m) g (l ++ (received k ∷ [])) → Stands (sent m) g l
sent_before_received {m} l k s = elim (stands_cases l (received k) s) [ inl w ↦ absurd (sent_received m k w.0) | inr z ↦ z ]

-- A send is the one just added, or stood there before.
pub sent_or_before : {m g : ℕ} (l : List HistoryEvent) (k : ℕ) → Stands (sent m) g (l ++ (sent k ∷ [])) → ((m ≡ k) × (g ≡ checkpoints l)) ⊎ Stands (sent m) g l
sent_or_before {m} l k s = elim (stands_cases l (sent k) s) [ inl w ↦ inl (same_sent m k w.0, w.1) | inr z ↦ inr z ]

-- A receipt, in a list with one more checkpoint, send or receipt.
pub received_before_stored : {m g : ℕ} (l : List HistoryEvent) → Stands (received m) g (l ++ (stored ∷ [])) → Stands (received m) g l
received_before_stored {m} l s = elim (stands_cases l stored s) [ inl w ↦ absurd (received_stored m w.0) | inr z ↦ z ]

-- A receipt, after which a send was added, stood there before.
pub received_before_sent : {m g : ℕ} (l : List HistoryEvent) (k : ℕ) → Stands (received m) g (l ++ (sent k ∷ [])) → Stands (received m) g l
received_before_sent {m} l k s = elim (stands_cases l (sent k) s) [ inl w ↦ absurd (sent_received k m (sym w.0)) | inr z ↦ z ]

-- A receipt is the one just added, or stood there before.
pub received_or_before : {m g : ℕ} (l : List HistoryEvent) (k : ℕ) → Stands (received m) g (l ++ (received k ∷ [])) → ((m ≡ k) × (g ≡ checkpoints l)) ⊎ Stands (received m) g l
received_or_before {m} l k s = elim (stands_cases l (received k) s) [ inl w ↦ inl (same_received m k w.0, w.1) | inr z ↦ inr z ]
