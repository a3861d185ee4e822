-- Lists that are stored one after the other.
use Prim.Native.Nat.{ℕ, suc, ◌+◌, ◌≤◌, ◌<◌}
use mathlib.Core.List.{List, [], ◌∷◌, ◌++◌}
use mathlib.Core.Path.{◌≡◌, refl, ap, ◌∙◌}
use native.Mathlib.Nat.{add-zero, zero-add}
use native.Mathlib.Omega.{arith}
use lib.ListN.{length, set, take, drop}
use lib.Seq.{sets, sets-eq, set-set, set_comm, take_at}

-- two lists stored one after the other are stored as one
pub sets_join : (vs ws l : List ℕ) (i k : ℕ) → k ≡ i + length vs → sets (sets l i vs) k ws ≡ sets l i (vs ++ ws)
sets_join [] ws l i k e = ap (λ (x : ℕ). sets l x ws) (e ∙ add-zero i)
sets_join (v ∷ vs) ws l i k e = sets_join vs ws _ (suc i) k (omega (arith, e))

-- stored from the start: what stands past it is kept
pub sets_first : (vs l : List ℕ) → length vs ≤ length l → sets l 0 vs ≡ vs ++ drop (length vs) l
sets_first vs l h = sets-eq vs l 0 (omega arith) ∙ ap (λ (x : ℕ). vs ++ drop x l) (zero-add (length vs))

-- the list that was stored from the start
pub take-sets : (vs l : List ℕ) (n : ℕ) → length vs ≡ n → length vs ≤ length l → take n (sets l 0 vs) ≡ vs
take-sets vs l n e h = ap (take n) (sets_first vs l h) ∙ take_at vs (drop (length vs) l) n e

-- a store after a store
pub sets_after : (vs ws l : List ℕ) (i k : ℕ) {a b : List ℕ} → a ≡ sets l i vs → b ≡ sets a k ws → k ≡ i + length vs → b ≡ sets l i (vs ++ ws)
sets_after vs ws l i k f g e = g ∙ ap (λ (x : List ℕ). sets x k ws) f ∙ sets_join vs ws l i k e

-- a number stored before a list
sets_set : (vs l : List ℕ) (i k w : ℕ) → i < k → set (sets l k vs) i w ≡ sets (set l i w) k vs
sets_set [] l i k w h = refl
sets_set (v ∷ vs) l i k w h = sets_set vs (set l k v) i (suc k) w (omega arith) ∙ ap (λ (x : List ℕ). sets x (suc k) vs) (set_comm l k i v w (λ e. omega arith))

-- a list stored over one that is no longer
pub sets_over : (vs ws l : List ℕ) (i : ℕ) → length vs ≤ length ws → sets (sets l i vs) i ws ≡ sets l i ws
sets_over [] ws l i h = refl
sets_over (v ∷ vs) [] l i h = absurd (omega arith)
sets_over (v ∷ vs) (w ∷ ws) l i h =
    ap (λ (x : List ℕ). sets x (suc i) ws) (sets_set vs (set l i v) i (suc i) w (omega arith) ∙ ap (λ (x : List ℕ). sets x (suc i) vs) (set-set l i v w))
    ∙ sets_over vs ws (set l i w) (suc i) (omega arith)
