-- A record's vector is its parent's, united with that of the rules whose path ends there.
-- Assumes nothing.
use mathlib.Core.Path.{◌≡◌, refl, sym, ap, ap₂, ◌∙◌}
use mathlib.Core.Bool.{Bool, ◌||◌}
use mathlib.Core.List.{List, [], ◌∷◌, ◌++◌, map}
use Prim.Native.Nat.{ℕ, zero, suc, ◌<◌}
use native.Mathlib.Omega.{arith}
use lib.Bits.{bit_or}
use lib.ListN.{length, get_or, take, drop}
use Rattle.bits.specs.Path.{leads, same_path}
use Rattle.bits.specs.Word.{pack}
use Rattle.bits.specs.Tests.{any}
use Rattle.bits.proofs.ListLaws.{any_ext, any_or, map_ext, take_map, drop_map}
use Rattle.bits.proofs.SamePathLaws.{leads_root, leads_snoc}
use Rattle.bits.proofs.WordSetLaws.{or_word_lem}
use Rattle.bits.proofs.PackLaws.{length_pack}
use Rattle.rules.specs.Rule.{Rule}
use Rattle.area.specs.Shape.{Shape}
use Rattle.index.specs.Key.{Key, at, paths_in, hit}
use Rattle.index.specs.Image.{vector}
use Rattle.index.proofs.KeyLaws.{further}

-- ---- the rules that are hit

-- some path of the rule ends at the key
unfoldable pub own : Key → Rule → Bool
own k r = any (λ p. same_path p k.path) (paths_in r k.field)

pub hit_root : (f : ℕ) (r : Rule) → hit (at f []) r ≡ own (at f []) r
unfolding hit own
hit_root f r = any_ext (λ p. leads p []) (λ p. same_path p []) leads_root (paths_in r f)

pub hit_child : (k : Key) (b : Bool) (r : Rule) → hit (further k b) r ≡ (hit k r || own (further k b) r)
unfolding hit own
hit_child k b r =
    let q = k.path in
    let next = k.path ++ (b ∷ []) in
    any_ext (λ p. leads p next) (λ p. leads p q || same_path p next) (λ p. leads_snoc p q b) (paths_in r k.field)
    ∙ any_or (λ p. leads p q) (λ p. same_path p next) (paths_in r k.field)

-- ---- vectors that are united

unfoldable pub or_words : List ℕ → List ℕ → List ℕ
or_words [] ys = []
or_words (x ∷ xs) [] = []
or_words (x ∷ xs) (y ∷ ys) = bit_or x y ∷ or_words xs ys

pub get_d_or : (xs ys : List ℕ) (i : ℕ) → i < length xs → i < length ys → get_or (or_words xs ys) i 0 ≡ bit_or (get_or xs i 0) (get_or ys i 0)
unfolding or_words
get_d_or [] ys i h g = absurd (omega arith)
get_d_or (x ∷ xs) [] i h g = absurd (omega arith)
get_d_or (x ∷ xs) (y ∷ ys) zero h g = refl
get_d_or (x ∷ xs) (y ∷ ys) (suc i) h g = get_d_or xs ys i (omega arith) (omega arith)

pub pack_or : {A : Type 0} (size n : ℕ) (t u : A → Bool) (l : List A)
    → pack size n (map (λ x. t x || u x) l) ≡ or_words (pack size n (map t l)) (pack size n (map u l))
unfolding pack or_words
pack_or size zero t u l = refl
pack_or size (suc n) t u l =
    simp (take_map, drop_map) (ap₂ (λ (x : ℕ) (m : List ℕ). x ∷ m) (sym (or_word_lem t u (take size l))) (pack_or size n t u (drop size l)))

-- the words of the rules whose path ends at the key
unfoldable pub own_vector : Shape → List Rule → Key → List ℕ
own_vector S rules k = pack S.size S.blocks (map (own k) rules)

pub length_vector : (S : Shape) (rules : List Rule) (k : Key) → length (vector S rules k) ≡ S.blocks
unfolding vector
length_vector S rules k = length_pack S.size S.blocks (map (hit k) rules)

pub length_own : (S : Shape) (rules : List Rule) (k : Key) → length (own_vector S rules k) ≡ S.blocks
unfolding own_vector
length_own S rules k = length_pack S.size S.blocks (map (own k) rules)

pub vector_root : (S : Shape) (rules : List Rule) (f : ℕ) → vector S rules (at f []) ≡ own_vector S rules (at f [])
unfolding vector own_vector
vector_root S rules f = ap (pack S.size S.blocks) (map_ext (hit (at f [])) (own (at f [])) (hit_root f) rules)

pub vector_child : (S : Shape) (rules : List Rule) (k : Key) (b : Bool)
    → vector S rules (further k b) ≡ or_words (vector S rules k) (own_vector S rules (further k b))
unfolding vector own_vector
vector_child S rules k b =
    ap (pack S.size S.blocks) (map_ext (hit (further k b)) (λ r. hit k r || own (further k b) r) (hit_child k b) rules)
    ∙ pack_or S.size S.blocks (hit k) (own (further k b)) rules

-- word by word
pub vector_word_lem : (S : Shape) (rules : List Rule) (k : Key) (b : Bool) (i : ℕ) → i < S.blocks
    → get_or (vector S rules (further k b)) i 0 ≡ bit_or (get_or (vector S rules k) i 0) (get_or (own_vector S rules (further k b)) i 0)
vector_word_lem S rules k b i h =
    rw (vector_child S rules k b)
    (get_d_or (vector S rules k) (own_vector S rules (further k b)) i (rw length_vector h) (rw length_own h))
