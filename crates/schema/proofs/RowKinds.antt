-- The kind that a row's cell says is one: where a row is not of a kind, the cell does not say it.
use Prim.Native.Nat.{ℕ, zero, suc, ◌<◌}
use mathlib.Core.Path.{◌≡◌, refl, sym, ◌∙◌}
use native.Mathlib.Omega.{arith}
use Rattle.schema.specs.declared.table.Kind.{Kind}
use Rattle.schema.specs.declared.table.Kind.TheVariants.{Group, Another, Date, Chars, Signed, Plain, Wide}
use Rattle.schema.specs.View.{IsKind}

kind_of : ℕ → Kind
kind_of zero = Group
kind_of (suc zero) = Another
kind_of (suc (suc zero)) = Date
kind_of (suc (suc (suc zero))) = Chars
kind_of (suc (suc (suc (suc zero)))) = Signed
kind_of (suc (suc (suc (suc (suc zero))))) = Plain
kind_of (suc (suc (suc (suc (suc (suc n)))))) = Wide

wide_is : (n : ℕ) → 5 < n → Wide ≡ kind_of n
unfolding kind_of
wide_is zero h = absurd (omega arith)
wide_is (suc zero) h = absurd (omega arith)
wide_is (suc (suc zero)) h = absurd (omega arith)
wide_is (suc (suc (suc zero))) h = absurd (omega arith)
wide_is (suc (suc (suc (suc zero)))) h = absurd (omega arith)
wide_is (suc (suc (suc (suc (suc zero))))) h = absurd (omega arith)
wide_is (suc (suc (suc (suc (suc (suc n)))))) h = refl

kind_is : (n : ℕ) (k : Kind) → IsKind n k → k ≡ kind_of n
unfolding kind_of
kind_is n Group h = rw h
kind_is n Another h = rw h
kind_is n Date h = rw h
kind_is n Chars h = rw h
kind_is n Signed h = rw h
kind_is n Plain h = rw h
kind_is n Wide h = wide_is n h

pub not_kind : (n : ℕ) (k j : Kind) → IsKind n k → (k ≡ j → ⊥) → IsKind n j → ⊥
not_kind n k j h f u = f (kind_is n k h ∙ sym (kind_is n j u))
