-- Over an area that holds the index of some rules, for any lawful shape, the steps find the lowest rule that all keys hit, and the blocks that
-- deceive before it.
-- Assumes nothing.
use mathlib.Core.Path.{◌≡◌, refl, sym, ap, ap₂, ◌∙◌, fun_ext}
use mathlib.Core.Bool.{Bool, true, not, ◌&&◌}
use mathlib.Core.List.{List, [], ◌∷◌, map, map-map}
use Rattle.std.specs.Prelude.{Option, Some}
use Prim.Native.Nat.{ℕ, zero, suc, ◌+◌, ◌*◌, ◌≤◌, ◌<◌}
use native.Mathlib.Omega.{arith}
use lib.Bits.{bit_and}
use lib.ListN.{length, get_or, take, drop, replicate, length-map, length-take}
use Rattle.bits.specs.Word.{word_of, pack, nonzero, and_all}
use Rattle.bits.specs.Tests.{any, all, count}
use Rattle.bits.proofs.TestLaws.{and_trues, and_both}
use Rattle.bits.proofs.ListLaws.{any_map, all_ext, all_map, map_ext, take_map, drop_map, any_implied}
use Rattle.bits.proofs.WordLaws.{nonzero_word}
use Rattle.bits.proofs.WordSetLaws.{zip_and, and_word, mask_word}
use Rattle.bits.proofs.PackLaws.{pack_at}
use Rattle.rules.specs.Rule.{Rule}
use Rattle.rules.specs.Match.{block_of, blocks_before}
use Rattle.area.specs.Shape.{Shape}
use Rattle.index.specs.Key.{Key, hit}
use Rattle.index.specs.Keys.{keys}
use Rattle.index.specs.Image.{vector, image}
use Rattle.index.proofs.KeyLaws.{Stands}
use Rattle.index.proofs.OrderLaws.{KeysWithin}
use Rattle.index.proofs.ImageLaws.{record_summary, record_vector}
use Rattle.lookup.specs.Walk.{ends, summaries_at, vector_at}
use Rattle.lookup.specs.Scan.{Found, found, meet, resolve}
use Rattle.lookup.specs.Look.{lookup_steps}
use Rattle.lookup.proofs.ScanLaws.{chunk, winner, scan_all}
use Rattle.lookup.proofs.ShapeLaws.{over, Lawful, two_level, two_lawful}
use Rattle.lookup.proofs.WalkLaws.{ends_more, Indexed, image_indexed, walk_key}

-- ---- rules that keys hit

-- every key hits the rule
unfoldable pub hit_all : List Key → Rule → Bool
hit_all ks r = all (λ k. hit k r) ks

-- each key hits some rule of the block, and no rule is hit by all
unfoldable pub misleads : List Key → List Rule → Bool
misleads ks block = all (λ k. any (hit k) block) ks && not (any (hit_all ks) block)

-- what is found of keys: the lowest rule that all hit, and the blocks before it that mislead
abbrev pub keys_found : Shape → List Rule → List Key → Found
keys_found S rules ks =
    let w = winner (map (hit_all ks) rules) in
    found w (count (λ b. misleads ks (block_of S.size rules b)) (blocks_before S.size S.blocks w))

-- ---- a block

pub chunk_map : (t : Rule → Bool) (size b : ℕ) (rules : List Rule) → chunk size (map t rules) b ≡ map t (block_of size rules b)
unfolding block_of
chunk_map t size b rules = ap (take size) (drop_map t (b * size) rules) ∙ take_map t size (drop (b * size) rules)

pub chunk_any : (t : Rule → Bool) (size b : ℕ) (rules : List Rule) → any (λ x. x) (chunk size (map t rules) b) ≡ any t (block_of size rules b)
chunk_any t size b rules = ap (any (λ x. x)) (chunk_map t size b rules) ∙ any_map (λ x. x) t (block_of size rules b)

block_le : (size : ℕ) (rules : List Rule) (b : ℕ) → length (block_of size rules b) ≤ size
unfolding block_of
block_le size rules b = omega (arith, length-take size (drop (b * size) rules))

-- ---- a block's intersected word

zip_map : (t u : Rule → Bool) (c : List Rule) → zip_and (map t c) (map u c) ≡ map (λ r. t r && u r) c
zip_map t u [] = refl
zip_map t u (r ∷ c) = ap (λ l. (t r && u r) ∷ l) (zip_map t u c)

zip_trues : (n : ℕ) (t : Rule → Bool) (c : List Rule) → length c ≤ n → zip_and (map t c) (replicate n true) ≡ map (λ r. t r && true) c
zip_trues n t [] h = refl
zip_trues zero t (r ∷ c) h = absurd (omega arith)
zip_trues (suc n) t (r ∷ c) h = ap (λ l. (t r && true) ∷ l) (zip_trues n t c (omega arith))

and_fields : (size : ℕ) (c : List Rule) → length c ≤ size → (t : Rule → Bool) (ks : List Key)
    → bit_and (word_of (map t c)) (and_all size (map (λ k. word_of (map (hit k) c)) ks)) ≡ word_of (map (λ r. t r && hit_all ks r) c)
unfolding and_all hit_all all
and_fields size c h t [] =
    ap (bit_and (word_of (map t c))) (mask_word size) ∙ and_word (map t c) (replicate size true) ∙ ap word_of (zip_trues size t c h)
and_fields size c h t (k ∷ ks) =
    ap (bit_and (word_of (map t c))) (and_fields size c h (hit k) ks)
    ∙ and_word (map t c) (map (hit_all (k ∷ ks)) c) ∙ ap word_of (zip_map t (hit_all (k ∷ ks)) c)

-- ---- a block in which all keys hit a rule is one in which each hits some rule

each_hits : (ks : List Key) (c : List Rule) → any (hit_all ks) c ≡ true → all (λ k. any (hit k) c) ks ≡ true
unfolding hit_all all
each_hits [] c h = refl
each_hits (k ∷ ks) c h =
    and_both (any (hit k) c) (all (λ k. any (hit k) c) ks)
    (any_implied (hit_all (k ∷ ks)) (hit k) (λ r e. (and_trues (hit k r) (hit_all ks r) e).0) c h)
    (each_hits ks c (any_implied (hit_all (k ∷ ks)) (hit_all ks) (λ r e. (and_trues (hit k r) (hit_all ks r) e).1) c h))

-- ---- the blocks in order, from what the index holds of the keys

module _ (S : Shape) (lawful : Lawful S) (rules : List Rule) where
  -- block b of the rules
  abbrev block : ℕ → List Rule
  block b = block_of S.size rules b

  block_word : (k : Key) (b : ℕ) → b < S.blocks → get_or (vector S rules k) b 0 ≡ word_of (map (hit k) (block b))
  unfolding vector
  block_word k b h = pack_at S.size S.blocks (map (hit k) rules) b h ∙ ap word_of (chunk_map (hit k) S.size b rules)

  block_words : (ks : List Key) (b : ℕ) → b < S.blocks → map (λ v. get_or v b 0) (map (vector S rules) ks) ≡ map (λ k. word_of (map (hit k) (block b))) ks
  block_words ks b h =
      map-map (λ v. get_or v b 0) (vector S rules) ks
      ∙ map_ext (λ k. get_or (vector S rules k) b 0) (λ k. word_of (map (hit k) (block b))) (λ k. block_word k b h) ks

  -- the intersection of the keys' words has the rules that all keys hit
  meet_word : (k : Key) (ks : List Key) (b : ℕ) → b < S.blocks
      → meet S (map (vector S rules) (k ∷ ks)) b ≡ word_of (chunk S.size (map (hit_all (k ∷ ks)) rules) b)
  unfolding meet and_all hit_all all
  meet_word k ks b h =
      ap (and_all S.size) (block_words (k ∷ ks) b h)
      ∙ and_fields S.size (block b) (block_le S.size rules b) (hit k) ks
      ∙ ap word_of (sym (chunk_map (hit_all (k ∷ ks)) S.size b rules))

  -- the blocks that the summaries leave to be tried are those in which each key hits some rule
  opens : (ks : List Key) (b : ℕ) → b < S.blocks → S.tried (map (λ k. S.summary (vector S rules k)) ks) b ≡ all (λ k. any (hit k) (block b)) ks
  unfolding vector
  opens ks b h =
      ap (λ l. S.tried l b) (sym (map-map (over S) (λ k. map (hit k) rules) ks))
      ∙ lawful.tried_law (map (λ k. map (hit k) rules) ks) b h
      ∙ all_map (λ x. nonzero (get_or (pack S.size S.blocks x) b 0)) (λ k. map (hit k) rules) ks
      ∙ all_ext (λ k. nonzero (get_or (vector S rules k) b 0)) (λ k. any (hit k) (block b))
      (λ k. ap nonzero (block_word k b h) ∙ nonzero_word (map (hit k) (block b)) ∙ any_map (λ x. x) (hit k) (block b)) ks

  -- so the blocks in order find what the rules fix
  pub resolve_held : (k : Key) (ks : List Key) → length rules ≤ S.blocks * S.size
      → resolve S (map (λ k. S.summary (vector S rules k)) (k ∷ ks)) (map (vector S rules) (k ∷ ks)) ≡ keys_found S rules (k ∷ ks)
  unfolding resolve misleads
  resolve_held k ks fits =
      let hd : List Key = k ∷ ks in
      let m : List Bool = map (hit_all hd) rules in
      let opened : ℕ → Bool = λ b. all (λ k. any (hit k) (block b)) hd in
      scan_all S.size lawful.places m S.blocks (omega (arith, length-map rules (hit_all hd)))
      (S.tried (map (λ k. S.summary (vector S rules k)) hd)) opened (meet S (map (vector S rules) hd))
      (opens hd) (meet_word k ks)
      (λ b e. each_hits hd (block b) (sym (chunk_any (hit_all hd) S.size b rules) ∙ e))
      ∙ ap (λ (t : ℕ → Bool). found (winner m) (count t (blocks_before S.size S.blocks (winner m))))
      (fun_ext (λ b. ap (λ x. opened b && not x) (chunk_any (hit_all hd) S.size b rules)))

  -- ---- the walks

  module _ (area : List ℕ) (held : Indexed S rules area) where
    -- a record whose key has the same hits holds the same vector, and the same stands over it
    parts_at : (n : ℕ) (l k : Key) → Stands (keys S.fields rules) n l → map (hit l) rules ≡ map (hit k) rules
        → (summaries_at S area n ≡ S.summary (vector S rules k)) × (vector_at S area n ≡ vector S rules k)
    unfolding summaries_at vector_at vector
    parts_at n l k stands e =
        let row = held.row n l stands in
        let v : vector S rules l ≡ vector S rules k = ap (pack S.size S.blocks) e in (
          ap (λ r. take S.summaries (drop 2 r)) row ∙ record_summary S lawful.sized rules (keys S.fields rules) l ∙ ap S.summary v,
          ap (drop (2 + S.summaries)) row ∙ record_vector S lawful.sized rules (keys S.fields rules) l ∙ v,
        )

    -- the walks of some keys reached records that hold the keys' vectors and what stands over them
    record Reached (ks : List Key) (o : Option (List ℕ)) : Type 0 where
      rows : List ℕ
      there : o ≡ Some rows
      overs : map (summaries_at S area) rows ≡ map (λ k. S.summary (vector S rules k)) ks
      vectors : map (vector_at S area) rows ≡ map (vector S rules) ks

    ends_reached : (ks : List Key) → KeysWithin S.fields ks → Reached ks (ends S area ks)
    unfolding ends
    ends_reached [] w = record { rows = []; there = refl; overs = refl; vectors = refl }
    ends_reached (k ∷ ks) w =
        let one = walk_key S rules area held k w.0 in
        let more = ends_reached ks w.1 in
        let here = parts_at one.end one.key k one.stands one.hits in
        record {
          rows = one.end ∷ more.rows;
          there = ends_more S area k ks one.end more.rows one.there more.there;
          overs = ap₂ (λ x l. x ∷ l) here.0 more.overs;
          vectors = ap₂ (λ x l. x ∷ l) here.1 more.vectors;
        }

    -- the steps find what the rules fix
    pub steps_held : (k : Key) (ks : List Key) → KeysWithin S.fields (k ∷ ks) → length rules ≤ S.blocks * S.size
        → lookup_steps S area (k ∷ ks) ≡ Some (keys_found S rules (k ∷ ks))
    unfolding lookup_steps
    steps_held k ks w fits =
        let e = ends_reached (k ∷ ks) w in
        rw (e.there, lookup_steps) (ap Some (ap₂ (resolve S) e.overs e.vectors ∙ resolve_held k ks fits))

  -- over an area that starts with the image, whoever wrote it
  pub steps_image : (n : ℕ) (area : List ℕ) → take n area ≡ image S rules → (k : Key) (ks : List Key) → KeysWithin S.fields (k ∷ ks)
      → length rules ≤ S.blocks * S.size → lookup_steps S area (k ∷ ks) ≡ Some (keys_found S rules (k ∷ ks))
  steps_image n area e = steps_held area (image_indexed S lawful.sized rules n area e)

-- so with a second level of aggregation over 128 words: 4096 rules
pub wide_steps : (rules : List Rule) → length rules ≤ 4096 → (n : ℕ) (area : List ℕ) → take n area ≡ image (two_level 5 32 4) rules
    → (k : Key) (ks : List Key) → KeysWithin 5 (k ∷ ks) → lookup_steps (two_level 5 32 4) area (k ∷ ks) ≡ Some (keys_found (two_level 5 32 4) rules (k ∷ ks))
wide_steps rules few n area e k ks w =
    steps_image (two_level 5 32 4) (two_lawful 5 32 4 (omega arith) (omega arith)) rules n area e k ks w few
