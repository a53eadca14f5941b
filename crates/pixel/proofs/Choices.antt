-- Laws of keys and of one-bit pictures.
use Rattle.std.proofs.Common.{◌≡◌, ℕ, ◌%◌, cond, eqb, Some, None, Option, ap, arith}
use Rattle.std.proofs.lemmas.Bool.{ne_eqb, eq-eqb}
use Rattle.colour.specs.declared.Colour.{Colour}
use Rattle.pixel.specs.Choices.{keyed, expanded, expanded_over, IsKeyed, IsExpanded}

pub keyed_means : (value key : ℕ) (c : Colour) → IsKeyed value key c (keyed value key c)
keyed_means value key c = record {
  same = λ h. ap (λ t. cond t None (Some c)) (eq-eqb value key h);
  other = λ h. ap (λ t. cond t None (Some c)) (ne_eqb value key h);
}

parity : (bit : ℕ) (one zero : Option Colour) → IsExpanded bit one zero (cond (eqb (bit % 2) 1) one zero)
parity bit one zero = record {
  odd = λ k h. let r : bit % 2 ≡ 1 = omega arith in ap (λ n. cond (eqb n 1) one zero) r;
  even = λ k h. let r : bit % 2 ≡ 0 = omega arith in ap (λ n. cond (eqb n 1) one zero) r;
}

pub expanded_means : (bit : ℕ) (f b : Colour) → IsExpanded bit (Some f) (Some b) (expanded bit f b)
expanded_means bit f b = record {
  odd = λ k h. let r : bit % 2 ≡ 1 = omega arith in ap (λ n. Some (cond (eqb n 1) f b)) r;
  even = λ k h. let r : bit % 2 ≡ 0 = omega arith in ap (λ n. Some (cond (eqb n 1) f b)) r;
}

pub expanded_over_means : (bit : ℕ) (f : Colour) → IsExpanded bit (Some f) None (expanded_over bit f)
expanded_over_means bit f = parity bit (Some f) None
