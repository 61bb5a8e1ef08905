-- Laws of handing on. Over a forest, one forward sweep closes every vector: afterwards a child's word is its own, as it was, or'ed with
-- its parent's as it is; child words and lengths stay.
-- Assumes nothing.
use mathlib.Core.Path.{◌≡◌, refl, sym, ap, subst, ◌∙◌}
use mathlib.Core.Logic.{⊎_elim}
use mathlib.Core.List.{List}
use Prim.Native.Nat.{ℕ, zero, suc, ◌+◌, ◌*◌, ◌≤◌, ◌<◌}
use native.Mathlib.Nat.{le_refl, eq-or-lt_of_le, eq-zero-or-pos}
use native.Mathlib.Decide.{le_ind}
use native.Mathlib.Omega.{arith}
use lib.Bits.{bit_or}
use lib.ListN.{length, get_or, length-set}
use lib.Seq.{get_or-set_same, get_or-set_other}
use borrow.Author.Tests.{eq-eqb, ne_eqb}
use Rattle.area.specs.Shape.{blocks, record_words, vector_start}
use Rattle.area.specs.Upto.{upto}
use Rattle.area.specs.Grow.{Kids}
use Rattle.area.specs.Hand.{vector_word, child_word, or_word, joined, to_child, handed}
use Rattle.area.proofs.UptoLaws.{upto_more, upto_keeps}

pub child_none : (k b : ℕ) (a : List ℕ) → get_or a (record_words * k + b) 0 ≡ 0 → to_child k b a ≡ a
unfolding to_child
child_none k b a e = rw (eq-eqb (get_or a (record_words * k + b) 0) 0 e)

pub child_some : (k b : ℕ) (a : List ℕ) → (get_or a (record_words * k + b) 0 ≡ 0 → ⊥) → to_child k b a ≡ joined k (get_or a (record_words * k + b) 0) a
unfolding to_child
child_some k b a e = rw (ne_eqb (get_or a (record_words * k + b) 0) 0 e)

-- an area of m words whose first n records have their children below n
pub record Bounded (n m : ℕ) (a : List ℕ) : Type 0 where
  pub kids : Kids a n
  pub long : length a ≡ m

module _ (n m : ℕ) where
  or_sound : (k c w : ℕ) (a : List ℕ) → w < blocks → Bounded n m a → Bounded n m (or_word k c w a)
  unfolding Kids
  or_sound k c w a l s = record {
    kids = λ r b hr hb. rw (get_or-set_other a (record_words * c + vector_start + w) (record_words * r + b) _ 0 (λ e. omega arith)) (s.kids r b hr hb);
    long = length-set a _ _ ∙ s.long;
  }

  joined_sound : (k c : ℕ) (a : List ℕ) → Bounded n m a → Bounded n m (joined k c a)
  unfolding joined
  joined_sound k c a s = upto_keeps (or_word k c) (Bounded n m) blocks a (λ w t l p. or_sound k c w t l p) s

  pub child_sound : (k b : ℕ) (a : List ℕ) → Bounded n m a → Bounded n m (to_child k b a)
  child_sound k b a s =
      ⊎_elim (λ e. rw (child_none k b a e) s) (λ l. rw (child_some k b a (λ e. omega arith)) (joined_sound k _ a s))
      (eq-zero-or-pos (get_or a (record_words * k + b) 0))

  pub child_ready : (k b : ℕ) (a : List ℕ) → record_words * n ≤ m → k < n → b < 2 → Bounded n m a
      → (b < 2) × (record_words * k + record_words ≤ length a) × (record_words * get_or a (record_words * k + b) 0 + record_words ≤ length a)
  unfolding Kids
  child_ready k b a whole hk hb s = (hb, omega (arith, s.long), omega (arith, s.long, s.kids k b hk hb))

pub hand_none : (a : List ℕ) → handed 0 a ≡ a
unfolding handed upto
hand_none a = refl

pub hand_more : (k : ℕ) (a : List ℕ) → to_child k 1 (to_child k 0 (handed k a)) ≡ handed (k + 1) a
unfolding handed upto
hand_more k a = sym (upto_more (λ j x. to_child j 1 (to_child j 0 x)) k a)

-- ---- one word at a time

or_elsewhere : (k c w r v : ℕ) (a : List ℕ) → w < blocks → v < blocks → (r ≡ c → v ≡ w → ⊥) → vector_word (or_word k c w a) r v ≡ vector_word a r v
or_elsewhere k c w r v a hw hv ne =
    get_or-set_other a (record_words * c + vector_start + w) (record_words * r + vector_start + v) _ 0 (λ e. ne (omega arith) (omega arith))

or_here : (k c w : ℕ) (a : List ℕ) → w < blocks → record_words * c + record_words ≤ length a → vector_word (or_word k c w a) c w ≡ bit_or (vector_word a c w) (vector_word a k w)
or_here k c w a hw h = get_or-set_same a (record_words * c + vector_start + w) _ 0 (omega arith)

-- a word that is not yet reached is as it was, in every record
pub or_later : (k c n r v : ℕ) (a : List ℕ) → n ≤ v → v < blocks → vector_word (upto (or_word k c) n a) r v ≡ vector_word a r v
unfolding upto
or_later k c zero r v a hn hv = refl
or_later k c (suc n) r v a hn hv =
    or_elsewhere k c n r v (upto (or_word k c) n a) (omega arith) hv (λ e q. omega arith) ∙ or_later k c n r v a (omega arith) hv

or_length : (k c n : ℕ) (a : List ℕ) → length (upto (or_word k c) n a) ≡ length a
or_length k c n a = upto_keeps (or_word k c) (λ x. length x ≡ length a) n a (λ j x h e. length-set x _ _ ∙ e) refl

module _ (k c : ℕ) (a : List ℕ) (kc : k ≡ c → ⊥) (room : record_words * c + record_words ≤ length a) where
  others : (n r v : ℕ) → n ≤ blocks → v < blocks → (r ≡ c → ⊥) → vector_word (upto (or_word k c) n a) r v ≡ vector_word a r v
  unfolding upto
  others zero r v hn hv ne = refl
  others (suc n) r v hn hv ne = or_elsewhere k c n r v (upto (or_word k c) n a) hn hv (λ e q. ne e) ∙ others n r v (omega arith) hv ne

  done : (n v : ℕ) → v < n → n ≤ blocks → vector_word (upto (or_word k c) n a) c v ≡ bit_or (vector_word a c v) (vector_word a k v)
  unfolding upto
  done zero v h hn = absurd (omega arith)
  done (suc n) v h hn =
      let U = upto (or_word k c) n a in
      ⊎_elim
      (λ (e : v ≡ n).
      rw e
      (or_here k c n (upto (or_word k c) n a) hn (omega (arith, or_length k c n a))
      ∙ rw (or_later k c n c n a (le_refl n) hn, or_later k c n k n a (le_refl n) hn)))
      (λ (l : v < n). or_elsewhere k c n c v (upto (or_word k c) n a) hn (omega arith) (λ e q. omega arith) ∙ done n v l (omega arith))
      (eq-or-lt_of_le {n = v} {m = n} (omega arith))

kids_kept : (k c n r b : ℕ) (a : List ℕ) → n ≤ blocks → b < 2 → child_word (upto (or_word k c) n a) r b ≡ child_word a r b
kids_kept k c n r b a hn hb =
    upto_keeps (or_word k c) (λ x. child_word x r b ≡ child_word a r b) n a
    (λ w x h e. get_or-set_other x (record_words * c + vector_start + w) (record_words * r + b) _ 0 (λ q. omega arith) ∙ e) refl

-- ---- a record's vector goes into a child's
module _ (k b : ℕ) (a : List ℕ) where
  by_child : (P : List ℕ → Type 0) → (child_word a k b ≡ 0 → P a) → (0 < child_word a k b → P (joined k (child_word a k b) a)) → P (to_child k b a)
  by_child P none some =
      ⊎_elim (λ e. rw (child_none k b a e) (none e)) (λ l. rw (child_some k b a (λ e. omega arith)) (some l)) (eq-zero-or-pos (child_word a k b))

  child_length : length (to_child k b a) ≡ length a
  unfolding joined
  child_length = by_child (λ x. length x ≡ length a) (λ e. refl) (λ l. or_length k (child_word a k b) blocks a)

  child_kids : (r c : ℕ) → c < 2 → child_word (to_child k b a) r c ≡ child_word a r c
  unfolding joined
  child_kids r c hc = by_child (λ x. child_word x r c ≡ child_word a r c) (λ e. refl) (λ l. kids_kept k (child_word a k b) blocks r c a (le_refl blocks) hc)

  module _ (up : 0 < child_word a k b → k < child_word a k b) (room : record_words * child_word a k b + record_words ≤ length a) where
    child_other : (r v : ℕ) → v < blocks → (0 < child_word a k b → r ≡ child_word a k b → ⊥) → vector_word (to_child k b a) r v ≡ vector_word a r v
    unfolding joined
    child_other r v hv ne =
        by_child (λ x. vector_word x r v ≡ vector_word a r v) (λ e. refl)
        (λ l. others k (child_word a k b) a (λ e. let u = up l in omega arith) room blocks r v (le_refl blocks) hv (ne l))

    child_here : (v : ℕ) → v < blocks → 0 < child_word a k b → vector_word (to_child k b a) (child_word a k b) v ≡ bit_or (vector_word a (child_word a k b) v) (vector_word a k v)
    unfolding joined
    child_here v hv l =
        rw (child_some k b a (λ e. omega arith))
        (done k (child_word a k b) a (λ e. let u = up l in omega arith) room blocks v hv (le_refl blocks))

-- ---- the sweep over a forest: children have higher numbers, and no two words name the same child
pub record Forest (a : List ℕ) (n : ℕ) : Type 0 where
  pub whole : record_words * n ≤ length a
  pub below : (k b : ℕ) → k < n → b < 2 → child_word a k b < n
  pub up : (k b : ℕ) → k < n → b < 2 → 0 < child_word a k b → k < child_word a k b
  pub one : (k b j c : ℕ) → k < n → b < 2 → j < n → c < 2 → 0 < child_word a k b → child_word a k b ≡ child_word a j c → (k ≡ j) × (b ≡ c)

module _ (a : List ℕ) (n : ℕ) (g : Forest a n) where
  pub sweep_kids : (j r b : ℕ) → b < 2 → child_word (handed j a) r b ≡ child_word a r b
  unfolding handed upto
  sweep_kids zero r b hb = refl
  sweep_kids (suc j) r b hb = child_kids j 1 (to_child j 0 (handed j a)) r b hb ∙ child_kids j 0 (handed j a) r b hb ∙ sweep_kids j r b hb

  pub sweep_length : (j : ℕ) → length (handed j a) ≡ length a
  unfolding handed upto
  sweep_length zero = refl
  sweep_length (suc j) = child_length j 1 (to_child j 0 (handed j a)) ∙ child_length j 0 (handed j a) ∙ sweep_length j

  module _ (j : ℕ) (hj : j < n) where
    -- the area before the turn, and after its first half
    kid₀ : child_word (handed j a) j 0 ≡ child_word a j 0
    kid₀ = sweep_kids j j 0 (omega arith)

    kid₁ : child_word (to_child j 0 (handed j a)) j 1 ≡ child_word a j 1
    kid₁ = child_kids j 0 (handed j a) j 1 (omega arith) ∙ sweep_kids j j 1 (omega arith)

    up₀ : 0 < child_word (handed j a) j 0 → j < child_word (handed j a) j 0
    up₀ = rw kid₀ (g.up j 0 hj (omega arith))

    room₀ : record_words * child_word (handed j a) j 0 + record_words ≤ length (handed j a)
    room₀ = rw (kid₀, sweep_length j) (omega (arith, g.below j 0 hj (omega arith), g.whole))

    up₁ : 0 < child_word (to_child j 0 (handed j a)) j 1 → j < child_word (to_child j 0 (handed j a)) j 1
    up₁ = rw kid₁ (g.up j 1 hj (omega arith))

    room₁ : record_words * child_word (to_child j 0 (handed j a)) j 1 + record_words ≤ length (to_child j 0 (handed j a))
    room₁ = rw (kid₁, child_length j 0 (handed j a), sweep_length j) (omega (arith, g.below j 1 hj (omega arith), g.whole))

    turn_other : (r v : ℕ) → v < blocks → ((b : ℕ) → b < 2 → 0 < child_word a j b → r ≡ child_word a j b → ⊥) → vector_word (handed (suc j) a) r v ≡ vector_word (handed j a) r v
    unfolding handed upto
    turn_other r v hv ne =
        child_other j 1 (to_child j 0 (handed j a)) up₁ room₁ r v hv (rw kid₁ (ne 1 (omega arith)))
        ∙ child_other j 0 (handed j a) up₀ room₀ r v hv (rw kid₀ (ne 0 (omega arith)))

    turn_child₀ : (v : ℕ) → v < blocks → 0 < child_word a j 0 → vector_word (handed (suc j) a) (child_word a j 0) v ≡ bit_or (vector_word (handed j a) (child_word a j 0) v) (vector_word (handed j a) j v)
    unfolding handed upto
    turn_child₀ v hv l =
        child_other j 1 (to_child j 0 (handed j a)) up₁ room₁ (child_word a j 0) v hv
        (rw kid₁ (λ p e. let z = g.one j 0 j 1 hj (omega arith) hj (omega arith) l e in omega (arith, z.1)))
        ∙ subst (λ (c : ℕ). vector_word (to_child j 0 (handed j a)) c v ≡ bit_or (vector_word (handed j a) c v) (vector_word (handed j a) j v)) kid₀
        (child_here j 0 (handed j a) up₀ room₀ v hv (omega (arith, kid₀)))

    turn_child₁ : (v : ℕ) → v < blocks → 0 < child_word a j 1 → vector_word (handed (suc j) a) (child_word a j 1) v ≡ bit_or (vector_word (handed j a) (child_word a j 1) v) (vector_word (handed j a) j v)
    unfolding handed upto
    turn_child₁ v hv l =
        let X = to_child j 0 (handed j a) in
        let other = child_other j 0 (handed j a) up₀ room₀ in
        let first = subst (λ (c : ℕ). vector_word (to_child j 1 X) c v ≡ bit_or (vector_word X c v) (vector_word X j v)) kid₁ (child_here j 1 X up₁ room₁ v hv (omega (arith, kid₁))) in
        let same-c = other (child_word a j 1) v hv (rw kid₀ (λ p e. let z = g.one j 0 j 1 hj (omega arith) hj (omega arith) p (sym e) in omega (arith, z.1))) in
        let same-j = other j v hv (λ p e. let u = up₀ p in omega arith) in
        first ∙ ap (λ (x : ℕ). bit_or x (vector_word X j v)) same-c ∙ ap (λ (x : ℕ). bit_or (vector_word (handed j a) (child_word a j 1) v) x) same-j

    turn_child : (b v : ℕ) → b < 2 → v < blocks → 0 < child_word a j b → vector_word (handed (suc j) a) (child_word a j b) v ≡ bit_or (vector_word (handed j a) (child_word a j b) v) (vector_word (handed j a) j v)
    turn_child zero v hb hv l = turn_child₀ v hv l
    turn_child (suc zero) v hb hv l = turn_child₁ v hv l
    turn_child (suc (suc b)) v hb hv l = absurd (omega arith)

  -- a word stays while no turn is its parent's
  stays : (r v : ℕ) → v < blocks → (j : ℕ) → ((m b : ℕ) → j ≤ m → m < n → b < 2 → 0 < child_word a m b → r ≡ child_word a m b → ⊥)
      → (m : ℕ) → j ≤ m → m ≤ n → vector_word (handed m a) r v ≡ vector_word (handed j a) r v
  stays r v hv j ne m h =
      le_ind (λ (k : ℕ). k ≤ n → vector_word (handed k a) r v ≡ vector_word (handed j a) r v) (λ q. refl)
      (λ k hk e q. turn_other k q r v hv (λ b hb. ne k b hk q hb) ∙ e (omega arith)) m h

  early : (r v : ℕ) → v < blocks → (j : ℕ) → j ≤ n → ((m b : ℕ) → m < j → b < 2 → 0 < child_word a m b → r ≡ child_word a m b → ⊥) → vector_word (handed j a) r v ≡ vector_word a r v
  unfolding handed upto
  early r v hv zero h ne = refl
  early r v hv (suc j) h ne = turn_other j h r v hv (λ b hb. ne j b (le_refl _) hb) ∙ early r v hv j (omega arith) (λ m b hm. ne m b (omega arith))

  -- a root's vector is as it was
  pub sweep_root : (r v : ℕ) → v < blocks → ((m b : ℕ) → m < n → b < 2 → 0 < child_word a m b → r ≡ child_word a m b → ⊥) → vector_word (handed n a) r v ≡ vector_word a r v
  sweep_root r v hv ne = early r v hv n (le_refl n) ne

  -- THE SWEEP: a child's is its own, as it was, with its parent's as it is
  pub sweep_child : (p b v : ℕ) → p < n → b < 2 → v < blocks → 0 < child_word a p b → vector_word (handed n a) (child_word a p b) v ≡ bit_or (vector_word a (child_word a p b) v) (vector_word (handed n a) p v)
  sweep_child p b v hp hb hv l =
      let c = child_word a p b in
      let after = stays (child_word a p b) v hv (suc p) (λ m d hm hn hd q e. let z = g.one p b m d hp hb hn hd l e in omega (arith, z.0)) n hp (le_refl n) in
      let turn = turn_child p hp b v hb hv l in
      let before = early (child_word a p b) v hv p (omega arith) (λ m d hm hd q e. let z = g.one p b m d hp hb (omega arith) hd l e in omega (arith, z.0)) in
      let parent = stays p v hv p (λ m d hm hn hd q e. let u = g.up m d hn hd q in omega arith) n (omega arith) (le_refl n) in
      after ∙ turn ∙ ap (λ (x : ℕ). bit_or x (vector_word (handed p a) p v)) before ∙ ap (λ (x : ℕ). bit_or (vector_word a (child_word a p b) v) x) (sym parent)

-- ---- words beyond the records stay

or_beyond : (k c j : ℕ) (a : List ℕ) → record_words * c + record_words ≤ j → (w : ℕ) → w ≤ blocks → get_or (upto (or_word k c) w a) j 0 ≡ get_or a j 0
unfolding upto
or_beyond k c j a h zero hw = refl
or_beyond k c j a h (suc w) hw =
    get_or-set_other (upto (or_word k c) w a) (record_words * c + vector_start + w) j _ 0 (λ e. omega arith) ∙ or_beyond k c j a h w (omega arith)

child_beyond : (k b j : ℕ) (a : List ℕ) → record_words * child_word a k b + record_words ≤ j → get_or (to_child k b a) j 0 ≡ get_or a j 0
unfolding joined
child_beyond k b j a h = by_child k b a (λ x. get_or x j 0 ≡ get_or a j 0) (λ e. refl) (λ l. or_beyond k (child_word a k b) j a h blocks (le_refl blocks))

module _ (a : List ℕ) (n : ℕ) (g : Forest a n) where
  pub sweep_beyond : (j : ℕ) → record_words * n ≤ j → (m : ℕ) → m ≤ n → get_or (handed m a) j 0 ≡ get_or a j 0
  unfolding handed upto
  sweep_beyond j h zero hm = refl
  sweep_beyond j h (suc m) hm =
      child_beyond m 1 j (to_child m 0 (handed m a)) (omega (arith, kid₁ a n g m hm, g.below m 1 hm (omega arith)))
      ∙ child_beyond m 0 j (handed m a) (omega (arith, kid₀ a n g m hm, g.below m 0 hm (omega arith)))
      ∙ sweep_beyond j h m (omega arith)
