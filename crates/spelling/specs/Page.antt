-- What putting text on a page asks and tells.
use Rattle.std.specs.Prelude.{ℕ, ◌≡◌, List}
use Rattle.spelling.specs.declared.Page.{Page}
use Rattle.store.specs.Store.{Inside}
use Rattle.spelling.specs.Put.{Puts}

-- n more bytes have room on the page
abbrev pub Room : Page → ℕ → Type 0
Room page n = Inside page.out.now page.at n

-- the text, of at most so many bytes, stands in the same output at the place where the page was, and the page is behind it
pub record Adds (old : Page) (text : List ℕ) (limit : ℕ) (new : Page) : Type 0 where
  pub same : new.out.ghost_name ≡ old.out.ghost_name
  pub puts : Puts old.out.now old.at text limit new.out.now new.at
