-- A checkpoint loaded from one list of bytes.
use Rattle.std.proofs.Common.{◌≡◌, ◌⊎◌, inl, inr, ℕ, List, [], ◌++◌, Result, Ok, Err, refl, sym, ap, subst, ◌∙◌}
use Rattle.std.specs.FinMap as map
use Rattle.byte_map.proofs.Maps.{map_entries}
use Rattle.byte_map.specs.Sorted.{IsSorted}
use Rattle.collections.specs.Refusal.{IsRefusal}
use Rattle.checkpoint.specs.Checkpoint.{Checkpoint}
use Rattle.checkpoint.specs.Sound.{IsSound, WholeIsSound}
use Rattle.checkpoint_check.specs.Refusals.{Condition, rank}
use Rattle.checkpoint_check.specs.declared.fault.CheckpointFault.{CheckpointFault}
use Rattle.checkpoint_check.specs.declared.fault.CheckpointFault.TheVariants as checkpoint
use Rattle.entry_code.specs.Code.{bytes_code}
use Rattle.keycode.specs.Valid.{IsStorable}
use Rattle.checkpoint_code.specs.Head.{head_code, IsKnown, IsHeadRead, IsHeadAccepted}
use Rattle.checkpoint_code.specs.Page.{Page}
use Rattle.checkpoint_code.specs.declared.head.Head.{Head}
use Rattle.checkpoint_code.specs.declared.fault.HeadFault.{HeadFault}
use Rattle.saved_world.specs.Head.{head_of}
use Rattle.saved_world.specs.Loading.{Loaded, checkpoint_in}
use Rattle.saved_world.specs.Parts.{IsPartAt, HasNoPart}
use Rattle.saved_world.specs.Saved.{IsSaved, head_part, pages_code, end_part, joined}
use Rattle.saved_world.specs.Loaded.{IsReadTo, IsLoaded, IsLoadAccepted}
use Rattle.saved_world.specs.declared.fault.LoadedFault.{LoadedFault}
use Rattle.saved_world.specs.declared.fault.LoadedFault.TheVariants.{Damaged, Cut, Trailing, Head as OfHead, Page as OfPage, Checkpoint as OfCheckpoint}
use Rattle.saved_world.specs.inner.PagesRead.{AreReadTo, AreLeft, ArePagesRead, ArePagesAccepted}

abbrev pub Answer : Type 0
Answer = Result Checkpoint LoadedFault

-- ---- no part

pub not_even_a_head : (bytes : List ℕ) → HasNoPart bytes → IsLoadAccepted bytes (Err Cut)
not_even_a_head bytes none limit c saved = none (head_code (head_of c)) (pages_code saved.pages ++ end_part) saved.head_short saved.code

module _ (bytes part more : List ℕ) (at : IsPartAt bytes part more) where
  -- the first part of what was saved is the head
  head_is : (limit : ℕ) (c : Checkpoint) (saved : IsSaved limit c bytes) → (head_code (head_of c) ≡ part) × (pages_code saved.pages ++ end_part ≡ more)
  head_is limit c saved = at.only (head_code (head_of c)) (pages_code saved.pages ++ end_part) saved.head_short saved.code

  -- ---- the head is refused

  pub no_head : (r : Answer) (fault : HeadFault) → r ≡ Err (OfHead fault) → IsHeadRead part (Err fault) → IsLoaded bytes r
  no_head r fault is read = subst (IsLoaded bytes) (sym is) (part, more, at.code, read)

  pub no_head_so : (r : Answer) (fault : HeadFault) → r ≡ Err (OfHead fault) → IsHeadAccepted part (Err fault) → IsLoadAccepted bytes r
  no_head_so r fault is accepted = subst (IsLoadAccepted bytes) (sym is) (λ limit c saved. accepted (head_of c) saved.head_known (sym (head_is limit c saved).0))

  -- ---- the head is read

  module _ (start now : Loaded) (none : start.pairs ≡ []) (head : IsHeadRead part (Ok start.head)) where
    whole_to : (rest : List ℕ) → AreReadTo start more now rest → IsReadTo bytes now rest
    whole_to rest read = record {
      pages = read.pages;
      all = ap (λ (l : Loaded). l.pairs) read.is ∙ ap (λ (l : Page). l ++ joined read.pages) none;
      code =
          at.code
          ∙ (λ i. bytes_code (head.0 i) ++ read.code i)
          ∙ ap (λ (h : Head). head_part h ++ (pages_code read.pages ++ rest)) (sym (ap (λ (l : Loaded). l.head) read.is));
      known = subst (λ (l : Loaded). IsKnown IsStorable l.head) (sym read.is) head.1;
      sorted = read.sorted (subst IsSorted (sym none) tt);
    }

    -- what was saved is still to be read
    todo : (limit : ℕ) (c : Checkpoint) → IsSaved limit c bytes → AreLeft limit start more (map.entries c.pairs)
    todo limit c saved = record {
      left = saved.pages;
      are_pages = saved.are_pages;
      joins = ap (λ (l : Page). l ++ joined saved.pages) none ∙ saved.all;
      code = sym (head_is limit c saved).1;
    }

    pub no_pages : (r : Answer) (fault : LoadedFault) → r ≡ Err fault → ArePagesRead start more (Err fault) now → IsLoaded bytes r
    no_pages r fault is read = subst (IsLoaded bytes) (sym is) (by fault read)
      where
        by : (fault : LoadedFault) → ArePagesRead start more (Err fault) now → IsLoaded bytes (Err fault)
        by Damaged read = absurd read
        by Cut (rest, to, cut) = inr (now, rest, whole_to rest to, cut)
        by Trailing (after, to, some) = (now, after, whole_to (end_part ++ after) to, some)
        by (OfPage why) (page, after, to, refused) = (now, page, after, whole_to (bytes_code page ++ after) to, refused)
        by (OfHead why) read = absurd read
        by (OfCheckpoint why) read = absurd read

    pub no_pages_so : (r : Answer) (fault : LoadedFault) → r ≡ Err fault → ArePagesAccepted start more (Err fault) now → IsLoadAccepted bytes r
    no_pages_so r fault is accepted = subst (IsLoadAccepted bytes) (sym is) (λ limit c saved. accepted limit (map.entries c.pairs) (map.entries_sorted c.pairs) (todo limit c saved))

    -- ---- the pages are read

    module _ (read : AreReadTo start more now end_part) (head_so : IsHeadAccepted part (Ok start.head)) (pages_so : ArePagesAccepted start more (Ok tt) now) where
      -- it is the checkpoint that was saved
      same : (limit : ℕ) (c : Checkpoint) → IsSaved limit c bytes → checkpoint_in now ≡ c
      same limit c saved =
          let head_same : now.head ≡ head_of c = ap (λ (l : Loaded). l.head) read.is ∙ head_so (head_of c) saved.head_known (sym (head_is limit c saved).0) in
          let pairs_same : now.pairs ≡ map.entries c.pairs = pages_so limit (map.entries c.pairs) (map.entries_sorted c.pairs) (todo limit c saved) in
          (λ i. checkpoint_in (record { head = head_same i; pairs = pairs_same i }))
          ∙ (λ i. record { place = c.place; moment = c.moment; line = c.line; newest = c.newest; before = c.before; progress = c.progress; pairs = map_entries c.pairs i })

      pub loaded_so : (d : Checkpoint) → d ≡ checkpoint_in now → IsLoadAccepted bytes (Ok d)
      loaded_so d is limit c saved = is ∙ same limit c saved

      pub loaded : (d : Checkpoint) → d ≡ checkpoint_in now → IsSound (checkpoint_in now) → IsLoaded bytes (Ok d)
      loaded d is sound = (now, whole_to end_part read, is, subst IsSound (sym is) sound)

      pub no_checkpoint : (r : Answer) (fault : CheckpointFault) → r ≡ Err (OfCheckpoint fault) → IsRefusal rank (Condition (checkpoint_in now)) checkpoint.Memory fault → IsLoaded bytes r
      no_checkpoint r fault is refused = subst (IsLoaded bytes) (sym is) (now, whole_to end_part read, refused)

      pub no_checkpoint_so : (r : Answer) (fault : CheckpointFault) → r ≡ Err (OfCheckpoint fault) → WholeIsSound → IsRefusal rank (Condition (checkpoint_in now)) checkpoint.Memory fault → IsLoadAccepted bytes r
      no_checkpoint_so r fault is law refused =
          subst (IsLoadAccepted bytes) (sym is) (λ limit c saved. by fault (subst IsSound (sym (same limit c saved)) (law c saved.whole)) refused.0)
        where
          by : (fault : CheckpointFault) → IsSound (checkpoint_in now) → (fault ≡ checkpoint.Memory) ⊎ Condition (checkpoint_in now) fault → fault ≡ checkpoint.Memory
          by fault sound (inl is) = is
          by checkpoint.BadVersions sound (inr why) = absurd (why sound.versions)
          by checkpoint.BadElements sound (inr why) = absurd (why sound.elements)
          by checkpoint.BadPairs sound (inr why) = absurd (why sound.pairs)
          by checkpoint.BadReorganisations sound (inr why) = absurd (why sound.reorganisations)
          by checkpoint.Memory sound (inr why) = refl
