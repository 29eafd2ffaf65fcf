-- If two prefixes differ, the keys are in the order of their prefixes.
use Rattle.std.proofs.Common.{◌≡◌, ◌<◌, ◌++◌, ℕ, List, [], ◌∷◌, get_or, length, ap, ◌∙◌, arith}
use Rattle.std.specs.declared.cmp.Ordering.TheVariants.{Less, Greater}
use Rattle.byte_map.specs.Numbers.{number, joined_words, words_of}
use Rattle.byte_map.specs.Order.{bytes_cmp}
use Rattle.byte_map.specs.Sorted.{Entries}
use Rattle.byte_map.proofs.Numbers.{number_less, number_greater, three_words}
use Rattle.page_map.specs.inner.Prefix.{IsPrefix, HasPrefix}

joined : (p : ℕ × ℕ × ℕ) (a : List ℕ) → p ≡ words_of a → joined_words p ≡ number 24 0 a
joined p a e = ap joined_words e ∙ three_words a

module _ (a b : List ℕ) (p q : ℕ × ℕ × ℕ) (h : IsPrefix p a) (g : IsPrefix q b) where
  pub prefix_less : joined_words p < joined_words q → bytes_cmp a b ≡ Less
  prefix_less l = number_less 24 a b h.bytes g.bytes (omega (arith, l, joined p a h.is, joined q b g.is))

  pub prefix_greater : joined_words q < joined_words p → bytes_cmp a b ≡ Greater
  prefix_greater l = number_greater 24 a b h.bytes g.bytes (omega (arith, l, joined p a h.is, joined q b g.is))

-- the first key of the first pairs is the first of all
pub prefix_part : (ys zs : Entries (List ℕ)) (p : ℕ × ℕ × ℕ) → HasPrefix (ys ++ zs) p → HasPrefix ys p
prefix_part [] zs p has first here = absurd (omega (arith, ap length here))
prefix_part (y ∷ ys) zs p has first here = has first (ap (λ (e : List ℕ × List ℕ). e ∷ (ys ++ zs)) (ap (λ (l : Entries (List ℕ)). get_or l 0 first) here))
