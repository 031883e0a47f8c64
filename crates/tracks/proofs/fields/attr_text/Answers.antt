use Prim.Native.Nat.{ℕ}
use mathlib.Core.Path.{◌≡◌, refl, sym, ap, ◌∙◌}
use mathlib.Core.Bool.{Bool, true, false}
use mathlib.Core.List.{List, []}
use Rattle.std.proofs.Common.{Bor, Option, Some, None}
use Rattle.std.specs.Prelude.{MatchOption, unwrap_or}
use Rattle.tracks.proofs.fields.attr_text.Goals as goal

unwrapped : (w : List ℕ) (h : Bool) (o : Option (Bor (List ℕ))) {r : Bor (List ℕ)} (b : Bor (List ℕ)) → b.now ≡ []
    → MatchOption o ((w ≡ []) × (h ≡ false)) (λ v. (v.now ≡ w) × (h ≡ true)) → r ≡ unwrap_or o b → r.now ≡ w
unwrapped w h (Some v) b e k u = ap (λ (x : Bor (List ℕ)). x.now) u ∙ k.0
unwrapped w h None b e k u = ap (λ (x : Bor (List ℕ)). x.now) u ∙ e ∙ sym k.0

pub returns : goal.returns
returns c = λ t h. unwrapped _ _ c.attr.result _ refl (c.attr.ensures t h) c.unwrap_or.ensures
