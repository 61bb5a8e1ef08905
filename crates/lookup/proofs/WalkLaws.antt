-- A walk, step by step over any area; and over an area that holds the index, where it ends: at a record whose vector is the header's.
-- Assumes nothing.
use mathlib.Core.Path.{◌≡◌, refl, sym, ap, ap₂, subst, ◌∙◌}
use mathlib.Core.Logic.{⊎_elim}
use mathlib.Core.Bool.{Bool, true, false, ◌||◌}
use mathlib.Core.List.{List, [], ◌∷◌, ◌++◌, map, append-nil, concat-ne-nil}
use Rattle.std.specs.Prelude.{Option, None, Some}
use Prim.Native.Nat.{ℕ, ◌/◌, ◌≤◌, ◌<◌}
use native.Mathlib.Nat.{le-div_iff_mul-le}
use native.Mathlib.Omega.{arith}
use lib.Dec.{eqb}
use lib.ListN.{length, get_or, take, drop, length-append, take-append-drop}
use lib.Seq.{append_snoc}
use borrow.Author.Tests.{eq-eqb, ne_eqb, le-ltb, lt-leb}
use Rattle.bits.specs.Path.{Path}
use Rattle.bits.specs.Word.{digit}
use Rattle.bits.proofs.TestLaws.{decided, less}
use Rattle.rules.specs.Rule.{Rule}
use Rattle.area.specs.Shape.{Shape, width}
use Rattle.index.specs.Key.{Key, at, has_record, place_from, hit}
use Rattle.index.specs.Keys.{keys}
use Rattle.index.specs.Image.{child, record_of, image}
use Rattle.index.specs.Need.{need}
use Rattle.index.proofs.KeyLaws.{further, Stands, place_in, place_out}
use Rattle.index.proofs.GrownLaws.{keys_root}
use Rattle.index.proofs.ReachLaws.{keys_absent, hits_stop}
use Rattle.index.proofs.CountLaws.{records_law}
use Rattle.index.proofs.ImageLaws.{record_child, Sized, length_image, image_record}
use Rattle.lookup.specs.Walk.{row_at, bad, walk_from, walk, ends}

-- ---- one step

-- the child that record n has for a bit
abbrev pub next : Shape → List ℕ → ℕ → Bool → ℕ
next S area n b = get_or (row_at S area n) (digit b) 0

module _ (S : Shape) (area : List ℕ) (n : ℕ) (b : Bool) (bs : Path) where
  -- none is there
  pub walk_stop : eqb (next S area n b) 0 ≡ true → walk_from S area n (b ∷ bs) ≡ Some n
  unfolding walk_from
  walk_stop e = rw (e, walk_from)

  -- it is damaged
  pub walk_bad : eqb (next S area n b) 0 ≡ false → bad S area (next S area n b) ≡ true → walk_from S area n (b ∷ bs) ≡ None
  unfolding walk_from
  walk_bad e d = rw (e, walk_from) (rw d)

  -- the walk goes on there
  pub walk_on : eqb (next S area n b) 0 ≡ false → bad S area (next S area n b) ≡ false → walk_from S area n (b ∷ bs) ≡ walk_from S area (next S area n b) bs
  unfolding walk_from
  walk_on e d = rw (e, walk_from) (rw d)

-- ---- the fields in order

module _ (S : Shape) (area : List ℕ) (k : Key) (ks : List Key) where
  -- a walk that meets damage ends them all
  pub ends_bad : walk S area k ≡ None → ends S area (k ∷ ks) ≡ None
  unfolding ends
  ends_bad e = rw (e, ends)

  pub ends_worse : (n : ℕ) → walk S area k ≡ Some n → ends S area ks ≡ None → ends S area (k ∷ ks) ≡ None
  unfolding ends
  ends_worse n e f = rw (e, ends) (rw f)

  pub ends_more : (n : ℕ) (ns : List ℕ) → walk S area k ≡ Some n → ends S area ks ≡ Some ns → ends S area (k ∷ ks) ≡ Some (n ∷ ns)
  unfolding ends
  ends_more n ns e f = rw (e, ends) (rw f)

-- ---- an area that holds the index

-- the area holds the index of these rules: each record's words stand at its number, and it has room for all
pub record Indexed (S : Shape) (rules : List Rule) (area : List ℕ) : Type 0 where
  pub row : (n : ℕ) (k : Key) → Stands (keys S.fields rules) n k → row_at S area n ≡ record_of S rules (keys S.fields rules) k
  pub room : length (keys S.fields rules) ≤ length area / width S

-- an area that starts with the image holds the index
pub image_indexed : (S : Shape) → Sized S → (rules : List Rule) (n : ℕ) (area : List ℕ) → take n area ≡ image S rules → Indexed S rules area
unfolding row_at need
image_indexed S sized rules n area e =
    let whole : image S rules ++ drop n area ≡ area = ap (λ l. l ++ drop n area) (sym e) ∙ take-append-drop n area in
    subst (Indexed S rules) whole (record {
      row = λ m k stands. image_record S sized rules m k stands (drop n area);
      room = (le-div_iff_mul-le {k = width S} (omega arith)).1
          (rw (records_law S.fields rules) (omega (arith, length-append (image S rules) (drop n area), length_image S sized rules)));
    })

-- a walk ended at a record, and every rule is hit there exactly when it is hit by the whole key
pub record Ended (S : Shape) (rules : List Rule) (k : Key) (o : Option ℕ) : Type 0 where
  pub end : ℕ
  pub there : o ≡ Some end
  pub key : Key
  pub stands : Stands (keys S.fields rules) end key
  pub hits : map (hit key) rules ≡ map (hit k) rules

module _ (S : Shape) (rules : List Rule) (area : List ℕ) (held : Indexed S rules area) where
  abbrev ks : List Key
  ks = keys S.fields rules

  -- the child that is read is the number of the record one bit further
  next_place : (k : Key) (n : ℕ) (b : Bool) → Stands ks n k → next S area n b ≡ place_from 0 (further k b) ks
  unfolding child
  next_place k n b s = ap (λ (l : List ℕ). get_or l (digit b) 0) (held.row n k s) ∙ record_child S rules ks k b

  -- a record whose path goes on is no root
  child_root : (k : Key) (b : Bool) (i : ℕ) → Stands ks i (further k b) → S.fields ≤ i
  child_root k b i s = ⊎_elim root (λ h. h) (less i S.fields)
    where
      root : i < S.fields → S.fields ≤ i
      root h = absurd (concat-ne-nil b k.path (ap (λ (l : Key). l.path) (sym s.there ∙ (keys_root S.fields rules i h).there)))

  -- so it is not damaged
  child_good : (k : Key) → k.field < S.fields → (b : Bool) (i : ℕ) → Stands ks i (further k b) → (eqb i 0 ≡ false) × (bad S area i ≡ false)
  unfolding bad
  child_good k hf b i s =
      let low = child_root k b i s in
      let high : i < length area / width S = omega (arith, held.room, s.inside) in
      (ne_eqb i 0 (λ z. omega arith), ap₂ (λ s t. s || t) (le-ltb i S.fields low) (lt-leb (length area / width S) i high))

  -- where no record goes on, no rule's path does; where one does, the walk goes on there
  pub walk_ends : (bs : Path) (k : Key) → k.field < S.fields → (n : ℕ) → Stands ks n k → Ended S rules (at k.field (k.path ++ bs)) (walk_from S area n bs)
  unfolding walk_from
  walk_ends [] k hf n s = record {
    end = n;
    there = refl;
    key = k;
    stands = s;
    hits = ap (λ (p : Path). map (hit (at k.field p)) rules) (sym (append-nil k.path));
  }
  walk_ends (b ∷ bs) k hf n s = ⊎_elim (on (walk_ends bs (further k b) hf)) stop (decided (has_record (further k b) ks))
    where
      on : ((i : ℕ) → Stands ks i (further k b) → Ended S rules (at k.field ((k.path ++ (b ∷ [])) ++ bs)) (walk_from S area i bs))
          → has_record (further k b) ks ≡ true → Ended S rules (at k.field (k.path ++ b ∷ bs)) (walk_from S area n (b ∷ bs))
      on later m =
          let there : Stands ks (next S area n b) (further k b) = rw (next_place k n b s) (place_in (further k b) ks m) in
          let good = child_good k hf b (next S area n b) there in
          let rest = later (next S area n b) there in
          record {
            end = rest.end;
            there = walk_on S area n b bs good.0 good.1 ∙ rest.there;
            key = rest.key;
            stands = rest.stands;
            hits = rest.hits ∙ ap (λ (p : Path). map (hit (at k.field p)) rules) (append_snoc k.path b bs);
          }

      stop : has_record (further k b) ks ≡ false → Ended S rules (at k.field (k.path ++ b ∷ bs)) (walk_from S area n (b ∷ bs))
      stop m = record {
        end = n;
        there = walk_stop S area n b bs (eq-eqb (next S area n b) 0 (next_place k n b s ∙ place_out (further k b) 0 ks m));
        key = k;
        stands = s;
        hits = hits_stop k b bs rules (keys_absent k b S.fields rules hf m);
      }

  -- a whole key's walk
  pub walk_key : (k : Key) → k.field < S.fields → Ended S rules k (walk S area k)
  unfolding walk
  walk_key k hf = walk_ends k.path (at k.field []) hf k.field (keys_root S.fields rules k.field hf)
