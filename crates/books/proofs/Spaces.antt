-- A space of slots over several calls: what each of them spares, they spare together.
use Rattle.std.proofs.Common.{◌≡◌, ℕ, ◌+◌, ◌-◌, ◌≤◌, List, take, drop, sym, refl, ap, ◌∙◌, arith}
use Rattle.std.proofs.lemmas.List.{take-take, drop-drop}
use Rattle.books.specs.Held.{Space, SparedSpace}

pub spared_same : {K : Type 0} (a : Space K) → SparedSpace a a
spared_same a = record { grows = omega arith; front = refl; back = refl }

take_less : {K : Type 0} (m n : ℕ) (xs ys : List K) → m ≤ n → take n xs ≡ take n ys → take m xs ≡ take m ys
take_less m n xs ys h e = sym (take-take m n xs h) ∙ ap (take m) e ∙ take-take m n ys h

drop_past : {K : Type 0} (m n : ℕ) (xs ys : List K) → m ≤ n → drop m xs ≡ drop m ys → drop n xs ≡ drop n ys
drop_past m n xs ys h e =
    let split : m + (n - m) ≡ n = omega arith in
    ap (λ (k : ℕ). drop k xs) (sym split) ∙ sym (drop-drop (n - m) m xs) ∙ ap (drop (n - m)) e ∙ drop-drop (n - m) m ys ∙ ap (λ (k : ℕ). drop k ys) split

pub spared_on : {K : Type 0} (a b c : Space K) → SparedSpace a b → SparedSpace b c → SparedSpace a c
spared_on a b c p q = record {
  grows = omega (arith, p.grows, q.grows);
  front = take_less a.held b.held c.slots b.slots p.grows q.front ∙ p.front;
  back = q.back ∙ drop_past b.held c.held b.slots a.slots q.grows p.back;
}
