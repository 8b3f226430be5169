-- How octets are read as items one after another, each behind a header that tells how long it is.
use Rattle.std.specs.Prelude.{◌≡◌, ◌≤◌, ℕ, Bool, true, List, ◌++◌, Option, Some, None, is_none, length}

-- what octets mean at a place of a connection
pub record Grammar (Place Fault Item : Type 0) : Type 0 where
  pub header_length : ℕ  -- how many octets a header has
  pub header_fault : Place → List ℕ → Option Fault  -- what is wrong with the header at the front
  pub told_length : List ℕ → ℕ  -- how many octets it tells, its own among them
  pub whole : List ℕ → Option Item  -- the item that so many octets are, where the header has no fault
  pub faulty : Fault → List ℕ → Item  -- the item that a header with a fault is
  pub ends : Item → Bool  -- nothing is read behind the item
  pub behind : Place → Item → Place  -- where a connection stands behind it

-- a header is judged by its own octets alone, tells at least these, and one without a fault has an item behind it; a fault ends the stream, and no header becomes faulty or sound behind an item that ends it
pub record IsGrammar {Place Fault Item : Type 0} (g : Grammar Place Fault Item) : Type 0 where
  pub some_header : 1 ≤ g.header_length
  pub fault_in_header : (place : Place) (front back : List ℕ) → g.header_length ≤ length front → g.header_fault place (front ++ back) ≡ g.header_fault place front
  pub told_in_header : (front back : List ℕ) → g.header_length ≤ length front → g.told_length (front ++ back) ≡ g.told_length front
  pub told_least : (place : Place) (octets : List ℕ) → g.header_fault place octets ≡ None → g.header_length ≤ g.told_length octets
  pub has_item : (place : Place) (octets : List ℕ) → g.header_fault place octets ≡ None → (item : Item) × (g.whole octets ≡ Some item)
  pub fault_ends : (fault : Fault) (octets : List ℕ) → g.ends (g.faulty fault octets) ≡ true
  pub same_behind_end : (place : Place) (item : Item) (octets : List ℕ) → g.ends item ≡ true → is_none (g.header_fault (g.behind place item) octets) ≡ is_none (g.header_fault place octets)
