-- The digits of sets, and what they say of the operations on sets.
use Rattle.std.proofs.Common.{◌≡◌, ℕ, zero, suc, ◌+◌, ◌-◌, ◌*◌, ◌/◌, ◌%◌, ◌^◌, ◌<◌, ◌≤◌, min, max, true, false, ◌&&◌, Decides, sym, refl, ap, ◌∙◌, ap₂, one-add, arith}
use Prim.Native.Nat.{differ}
use lib.Arith.{bin_ind}
use Rattle.std.proofs.lemmas.Nat.{shr-shr}
use lib.Bits.{bit_and, bit_or, bit_xor, and_step, or_step, xor_step}
use Rattle.std.proofs.lemmas.Bool.Decides.{same_from_decides, not_from_Decides, Decides-eqb, Decides-like, Decides-and}
use Rattle.parts.specs.Sets.{bit, without, within, empty}

pub bit_lt : (n i : ℕ) → bit n i < 2
bit_lt n zero = omega arith
bit_lt n (suc i) = bit_lt (n / 2) i

pub bit_zero : (i : ℕ) → bit 0 i ≡ 0
bit_zero zero = refl
bit_zero (suc i) = bit_zero i

pub and_half : (a b : ℕ) → bit_and a b / 2 ≡ bit_and (a / 2) (b / 2)
and_half a b = omega (arith, and_step a b)

pub and_low : (a b : ℕ) → bit_and a b % 2 ≡ min (a % 2) (b % 2)
and_low a b = omega (arith, and_step a b)

pub or_half : (a b : ℕ) → bit_or a b / 2 ≡ bit_or (a / 2) (b / 2)
or_half a b = omega (arith, or_step a b)

pub or_low : (a b : ℕ) → bit_or a b % 2 ≡ max (a % 2) (b % 2)
or_low a b = omega (arith, or_step a b)

digit : (x y : ℕ) → x < 2 → y < 2 → differ x (min x y) ≡ x - y
digit zero zero h k = refl
digit zero (suc zero) h k = refl
digit (suc zero) zero h k = refl
digit (suc zero) (suc zero) h k = refl
digit zero (suc (suc y)) h k = absurd (omega arith)
digit (suc zero) (suc (suc y)) h k = absurd (omega arith)
digit (suc (suc x)) y h k = absurd (omega arith)

without_step : (a b : ℕ) → without a b ≡ without (a / 2) (b / 2) * 2 + (a % 2 - b % 2)
without_step a b =
    xor_step a (bit_and a b)
    ∙ ap₂ (λ (x y : ℕ). bit_xor (a / 2) x * 2 + differ (a % 2) y) (and_half a b) (and_low a b)
    ∙ ap (λ (x : ℕ). without (a / 2) (b / 2) * 2 + x) (digit (a % 2) (b % 2) (omega arith) (omega arith))

pub without_half : (a b : ℕ) → without a b / 2 ≡ without (a / 2) (b / 2)
without_half a b = omega (arith, without_step a b)

pub without_low : (a b : ℕ) → without a b % 2 ≡ a % 2 - b % 2
without_low a b = omega (arith, without_step a b)

pub bit_of_and : (a b i : ℕ) → bit (bit_and a b) i ≡ min (bit a i) (bit b i)
bit_of_and a b zero = and_low a b
bit_of_and a b (suc i) = ap (λ (x : ℕ). bit x i) (and_half a b) ∙ bit_of_and (a / 2) (b / 2) i

pub bit_of_or : (a b i : ℕ) → bit (bit_or a b) i ≡ max (bit a i) (bit b i)
bit_of_or a b zero = or_low a b
bit_of_or a b (suc i) = ap (λ (x : ℕ). bit x i) (or_half a b) ∙ bit_of_or (a / 2) (b / 2) i

pub bit_without : (a b i : ℕ) → bit (without a b) i ≡ bit a i - bit b i
bit_without a b zero = without_low a b
bit_without a b (suc i) = ap (λ (x : ℕ). bit x i) (without_half a b) ∙ bit_without (a / 2) (b / 2) i

-- two sets with the same parts are one
pub same_set : (a b : ℕ) → ((i : ℕ) → bit a i ≡ bit b i) → a ≡ b
same_set =
    bin_ind (λ (a : ℕ). (b : ℕ) → ((i : ℕ) → bit a i ≡ bit b i) → a ≡ b)
    (bin_ind (λ (b : ℕ). ((i : ℕ) → bit 0 i ≡ bit b i) → 0 ≡ b) (λ h. refl)
    (λ b ih h. let top : 0 ≡ b / 2 = ih (λ i. h (suc i)) in let low : 0 ≡ b % 2 = h 0 in omega arith))
    (λ a ih b h. let top : a / 2 ≡ b / 2 = ih (b / 2) (λ i. h (suc i)) in let low : a % 2 ≡ b % 2 = h 0 in omega arith)

abbrev pub In : ℕ → ℕ → Type 0
In a b = (i : ℕ) → bit a i ≤ bit b i

pub decides_within : (a b : ℕ) → Decides (within a b) (In a b)
decides_within a b =
    Decides-like (within a b)
    (λ e i. omega (arith, sym (ap (λ (x : ℕ). bit x i) e), bit_of_and a b i))
    (λ h. same_set (bit_and a b) a (λ i. omega (arith, bit_of_and a b i, h i)))
    (Decides-eqb (bit_and a b) a)

-- two sets that share no part
abbrev pub Apart : ℕ → ℕ → Type 0
Apart a b = (i : ℕ) → min (bit a i) (bit b i) ≡ 0

pub decides_apart : (a b : ℕ) → Decides (empty (bit_and a b)) (Apart a b)
decides_apart a b =
    Decides-like (empty (bit_and a b))
    (λ e i. sym (bit_of_and a b i) ∙ ap (λ (x : ℕ). bit x i) e ∙ bit_zero i)
    (λ h. same_set (bit_and a b) 0 (λ i. bit_of_and a b i ∙ h i ∙ sym (bit_zero i)))
    (Decides-eqb (bit_and a b) 0)

-- a state has the parts of two sets together where it has those of each
pub within_or : (a b s : ℕ) → within (bit_or a b) s ≡ (within a s && within b s)
within_or a b s =
    same_from_decides (within (bit_or a b) s) (within a s && within b s) (decides_within (bit_or a b) s)
    (Decides-like (within a s && within b s)
    (λ h i. omega (arith, bit_of_or a b i, h.0 i, h.1 i))
    (λ h. (λ i. omega (arith, bit_of_or a b i, h i), λ i. omega (arith, bit_of_or a b i, h i)))
    (Decides-and (within a s) (within b s) (decides_within a s) (decides_within b s)))

-- a set is what it shares with x, and the rest
pub split_set : (g x : ℕ) → bit_or (bit_and g x) (without g x) ≡ g
split_set g x =
    same_set (bit_or (bit_and g x) (without g x)) g
    (λ i. omega (arith, bit_of_or (bit_and g x) (without g x) i, bit_of_and g x i, bit_without g x i, bit_lt g i, bit_lt x i))

pub within_split : (g x s : ℕ) → within g s ≡ (within (bit_and g x) s && within (without g x) s)
within_split g x s = ap (λ (y : ℕ). within y s) (sym (split_set g x)) ∙ within_or (bit_and g x) (without g x) s

pub within_trans : (a b c : ℕ) → within a b ≡ true → within b c ≡ true → within a c ≡ true
within_trans a b c h k =
    (decides_within a c).1 (λ i. omega (arith, (decides_within a b).0 h i, (decides_within b c).0 k i))

pub shared_within : (a b c : ℕ) → within b c ≡ true → within (bit_and a b) c ≡ true
shared_within a b c h = (decides_within (bit_and a b) c).1 (λ i. omega (arith, bit_of_and a b i, (decides_within b c).0 h i))

pub rest_pos : (a b : ℕ) → within a b ≡ false → 0 < without a b
rest_pos a b h = go (without a b) refl
  where
    go : (n : ℕ) → without a b ≡ n → 0 < n
    go zero e =
        absurd (not_from_Decides (within a b) (decides_within a b) h
        (λ i. omega (arith, bit_without a b i, ap (λ (x : ℕ). bit x i) e, bit_zero i)))
    go (suc n) e = omega arith

pub without_zero : (a : ℕ) → without a 0 ≡ a
without_zero a = same_set _ _ (λ i. omega (arith, bit_without a 0 i, bit_zero i))

-- a set within one below 2 ^ k is below it
pub in_below : (k a b : ℕ) → In a b → b < 2 ^ k → a < 2 ^ k
in_below zero a b h l =
    let z : b ≡ 0 = omega arith in
    let e : a ≡ 0 = same_set a 0 (λ i. omega (arith, h i, ap (λ (x : ℕ). bit x i) z, bit_zero i)) in
    omega arith
in_below (suc k) a b h l = let half : a / 2 < 2 ^ k = in_below k (a / 2) (b / 2) (λ i. h (suc i)) (omega arith) in omega arith

pub or_assoc : (a b c : ℕ) → bit_or (bit_or a b) c ≡ bit_or a (bit_or b c)
or_assoc a b c = same_set _ _ (λ i. omega (arith, bit_of_or (bit_or a b) c i, bit_of_or a b i, bit_of_or a (bit_or b c) i, bit_of_or b c i))

-- `a & !b`
pub and_not : (k a b : ℕ) → a < 2 ^ k → b < 2 ^ k → bit_and a (2 ^ k - 1 - b) ≡ without a b
and_not zero a b h l = let z : a ≡ 0 = omega arith in ap (λ (x : ℕ). bit_and x (0 - b)) z ∙ sym (ap (λ (x : ℕ). without x b) z)
and_not (suc k) a b h l =
    let top : (2 ^ suc k - 1 - b) / 2 ≡ 2 ^ k - 1 - b / 2 = omega arith in
    let low : (2 ^ suc k - 1 - b) % 2 ≡ 1 - b % 2 = omega arith in
    omega (arith, and_step a (2 ^ suc k - 1 - b), ap (bit_and (a / 2)) top, and_not k (a / 2) (b / 2) (omega arith) (omega arith), without_step a b, low)

pub bit_shift : (n i : ℕ) → n / 2 ^ i % 2 ≡ bit n i
bit_shift n zero = omega arith
bit_shift n (suc i) = ap (λ (k : ℕ). n / 2 ^ k % 2) (sym (one-add i)) ∙ sym (ap (λ (x : ℕ). x % 2) (shr-shr n 1 i)) ∙ bit_shift (n / 2) i
