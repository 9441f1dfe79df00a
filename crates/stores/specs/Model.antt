use Rattle.std.specs.Prelude.{◌≡◌, ℕ, ◌≤◌, ◌⊎◌, List, [], length, ◌≢◌}
use Rattle.keys.specs.Digests.{value_room}
use Rattle.keys.specs.declared.key.Key.{Key}
use Rattle.stores.specs.Numbers.{Raised, no_fault, FindNumbers, PutNumbers, find_refused, put_refused, padded}

-- what a store means: the pairs it holds, the faults it can raise, what a find and what a put may do
pub record Model (S : Type 0) : Type 1 where
  pub holds : S → Key → List ℕ → Type 0
  pub raises : S → Raised → Type 0
  pub finds : S → Key → FindNumbers → List ℕ → S → Type 0
  pub puts : S → Key → List ℕ → PutNumbers → S → Type 0

-- two states of a store hold the same pairs
abbrev pub HoldSame : {S : Type 0} → Model S → S → S → Type 0
HoldSame m s t = (k : Key) (v : List ℕ) → (m.holds s k v → m.holds t k v) × (m.holds t k v → m.holds s k v)

-- what is true of the pairs and the faults of a store
pub record HeldMeans {S : Type 0} (m : Model S) : Type 0 where
  -- a value has at most its room
  pub short : (s : S) (k : Key) (v : List ℕ) → m.holds s k v → length v ≤ value_room
  -- a mark is 1 to 255
  pub marks : (s : S) (f : Raised) → m.raises s f → (1 ≤ f.mark) × (f.mark ≤ 255)
  -- a cause is one of the list
  pub causes : (s : S) (f : Raised) → m.raises s f → (1 ≤ f.cause) × (f.cause ≤ 5)

-- what is true of every find that is not refused
pub record FindMeans {S : Type 0} (m : Model S) : Type 0 where
  -- it answers found, missing or a fault
  pub answers : (s t : S) (k : Key) (r : FindNumbers) (p : List ℕ) → m.finds s k r p t → (1 ≤ r.answer) × (r.answer ≤ 3)
  -- found: the buffer has the value of a pair of that key held at entry, then zeros
  pub found : (s t : S) (k : Key) (r : FindNumbers) (p : List ℕ) → m.finds s k r p t → r.answer ≡ 1 → (v : List ℕ) × (m.holds s k v) × (length v ≡ r.size) × (p ≡ padded v)
  -- missing: no pair of that key is held at exit
  pub missing : (s t : S) (k : Key) (r : FindNumbers) (p : List ℕ) → m.finds s k r p t → r.answer ≡ 2 → (v : List ℕ) → m.holds t k v → ⊥
  -- unless something was found the buffer is all zeros, and the length is 0
  pub blanked : (s t : S) (k : Key) (r : FindNumbers) (p : List ℕ) → m.finds s k r p t → (r.answer ≢ 1) → (p ≡ padded []) × (r.size ≡ 0)
  -- pairs held after it were held before it
  pub nothing_new : (s t : S) (k : Key) (r : FindNumbers) (p : List ℕ) → m.finds s k r p t → (j : Key) (w : List ℕ) → m.holds t j w → m.holds s j w
  -- with a fault one is carried
  pub faulted : (s t : S) (k : Key) (r : FindNumbers) (p : List ℕ) → m.finds s k r p t → r.answer ≡ 3 → r.first ≢ no_fault
  -- a fault that is carried is in the store's set
  pub own_fault : (s t : S) (k : Key) (r : FindNumbers) (p : List ℕ) → m.finds s k r p t → (r.first ≢ no_fault) → m.raises s r.first
  -- the set of faults never changes
  pub same_faults : (s t : S) (k : Key) (r : FindNumbers) (p : List ℕ) → m.finds s k r p t → (f : Raised) → (m.raises s f → m.raises t f) × (m.raises t f → m.raises s f)

-- what is true of every put that is not refused
pub record PutMeans {S : Type 0} (m : Model S) : Type 0 where
  -- it answers kept or a fault
  pub answers : (s t : S) (k : Key) (v : List ℕ) (r : PutNumbers) → m.puts s k v r t → (r.answer ≡ 1) ⊎ (r.answer ≡ 3)
  -- kept: the pair is held at exit
  pub kept : (s t : S) (k : Key) (v : List ℕ) (r : PutNumbers) → m.puts s k v r t → r.answer ≡ 1 → m.holds t k v
  -- pairs held after it were held before it or are the new one
  pub nothing_else : (s t : S) (k : Key) (v : List ℕ) (r : PutNumbers) → m.puts s k v r t → (j : Key) (w : List ℕ) → m.holds t j w → m.holds s j w ⊎ ((j ≡ k) × (w ≡ v))
  -- with a fault one is carried
  pub faulted : (s t : S) (k : Key) (v : List ℕ) (r : PutNumbers) → m.puts s k v r t → r.answer ≡ 3 → r.first ≢ no_fault
  -- a fault that is carried is in the store's set
  pub own_fault : (s t : S) (k : Key) (v : List ℕ) (r : PutNumbers) → m.puts s k v r t → (r.first ≢ no_fault) → m.raises s r.first
  -- the set of faults never changes
  pub same_faults : (s t : S) (k : Key) (v : List ℕ) (r : PutNumbers) → m.puts s k v r t → (f : Raised) → (m.raises s f → m.raises t f) × (m.raises t f → m.raises s f)

-- what a call of find does: a buffer of another length than a value's room is refused first, and nothing changes
pub record FindPost {S : Type 0} (m : Model S) (s : S) (k : Key) (buffer : List ℕ) (r : FindNumbers) (p : List ℕ) (t : S) : Type 0 where
  pub does : length buffer ≡ value_room → m.finds s k r p t
  pub refuses : (length buffer ≢ value_room) → (r ≡ find_refused) × (p ≡ buffer) × (t ≡ s)

-- what a call of put does: a value longer than its room is refused first, and nothing changes
pub record PutPost {S : Type 0} (m : Model S) (s : S) (k : Key) (v : List ℕ) (r : PutNumbers) (t : S) : Type 0 where
  pub does : length v ≤ value_room → m.puts s k v r t
  pub refuses : (length v ≤ value_room → ⊥) → (r ≡ put_refused) × (t ≡ s)
