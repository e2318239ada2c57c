-- Texts one behind the other in a buffer: whole ones, 'while the next one fits' (document 01, 'Calls and buffers', Clauses).
use Rattle.std.specs.Prelude.{◌≡◌, Bool, List, ℕ, suc, ◌+◌, ◌<◌, ◌≤◌, leb, length}
use denote.MutBor.{MutBor}
use Rattle.lists.specs.Rows.{each, tab}
use Rattle.lists.specs.Places.{passing}
use Rattle.lists.specs.Writing.{write}
use Rattle.put.specs.declared.Page.{Page}
use Rattle.put.specs.Put.{Adds}
use Rattle.text.specs.declared.Texted.{Texted}

module _ (n : ℕ) (text : ℕ → List ℕ) where
  -- how many of the n texts go into a room of bytes
  unfoldable pub fitting : ℕ → ℕ
  fitting room = passing (tab n λ i. leb (length (each (suc i) text)) room)

  -- how many texts and bytes are written
  unfoldable pub texted : List ℕ → Texted
  texted old = record { count = fitting (length old); bytes = length (each (fitting (length old)) text) }

  -- the buffer with them
  unfoldable pub with_texts : List ℕ → List ℕ
  with_texts old = write old 0 (each (fitting (length old)) text)

-- ---- how the code comes to it

-- a text of at most so many bytes is put where it has room, and it is told whether it had
pub record PutsWhole (most : ℕ) (old new : Page) (told : Bool) (text : List ℕ) : Type 0 where
  pub short : length text ≤ most
  pub fits : told ≡ leb (old.end + length text) (length old.out.now)
  pub adds : Adds old new text

-- so is each of n texts, by what a call that is lent the page tells
abbrev pub PutsEach : ℕ → ℕ → (ℕ → List ℕ) → (MutBor Page → ℕ → Bool → MutBor Page → Type 0) → Type 0
PutsEach n most text call = (page : MutBor Page) (i : ℕ) (told : Bool) (after : MutBor Page) → i < n → call page i told after
    → PutsWhole most page.now after.now told (text i)
