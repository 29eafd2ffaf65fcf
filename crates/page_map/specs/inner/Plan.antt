-- Cited by private functions alone: Plan::new, Plan::add, Plan::place, Plan::place_each, Plan::place_all.
-- Pages that are to take the place of pages in a list. The pieces of a plan come with the last one first.
use Rattle.std.specs.Prelude.{◌≡◌, ℕ, ◌+◌, ◌≤◌, List, [], ◌∷◌, ◌++◌, length, take, drop, reverse}
use Rattle.byte_map.specs.Sorted.{Entries}
use Rattle.page_map.specs.Pages.{joined}
use Rattle.page_map.specs.declared.rewrite.Piece.{Piece}
use Rattle.page_map.specs.declared.rewrite.Plan.{Plan}

-- over so many pages the pieces reach
abbrev pub reach : List Piece → ℕ
reach [] = 0
reach (piece ∷ before) = piece.at + 1

-- what those pages become
abbrev pub made : List (Entries (List ℕ)) → List Piece → List (Entries (List ℕ))
made pages [] = []
made pages (piece ∷ before) = made pages before ++ (drop (reach before) (take piece.at pages) ++ piece.pages.items)

-- all pages, with the pieces in their places
abbrev pub placed : List (Entries (List ℕ)) → List Piece → List (Entries (List ℕ))
placed pages pieces = made pages pieces ++ drop (reach pieces) pages

-- how many pages the pieces bring
abbrev pub brought : List Piece → ℕ
brought [] = 0
brought (piece ∷ before) = brought before + length piece.pages.items

-- no piece falls to a place that an earlier one reaches over, or after the pages
abbrev pub AreRising : {X : Type 0} → List X → List Piece → Type 0
AreRising pages [] = Unit {0}
AreRising pages (piece ∷ before) = (reach before ≤ piece.at) × (piece.at ≤ length pages) × AreRising pages before

-- what a plan knows of its pieces
pub record IsPlan (pages : List (Entries (List ℕ))) (plan : Plan) : Type 0 where
  pub rising : AreRising pages (reverse plan.pieces.items)
  pub reached : plan.reach ≡ reach (reverse plan.pieces.items)
  pub room : plan.room ≡ brought (reverse plan.pieces.items)
  pub part : length (joined pages) ≤ plan.base
  pub len : plan.len + length (joined pages) ≡ plan.base + length (joined (placed pages (reverse plan.pieces.items)))
