use Prim.Native.Nat.{ℕ}
use mathlib.Core.Path.{◌≡◌, ap, ◌∙◌}
use mathlib.Core.Bool.{Bool, false}
use mathlib.Core.List.{List}
use Rattle.std.specs.Prelude.{Option, Some, None, MatchOption}
use Rattle.std.proofs.Common.{rules}
use Rattle.laws.specs.Lists.{same}
use Rattle.markup.specs.NamesAndValues.{then, byte, name}
use Rattle.markup.specs.Elements.{Tree}
use Rattle.markup.specs.View.{part, view_got}
use Rattle.markup.specs.declared.Text.{Text}
use Rattle.nodes.proofs.Entering.{Headed, head_name, headed, not_headed}
use Rattle.nodes.proofs.children.is_named.Goals as goal

by_name : (s l x : List ℕ) (o : Option Text) (b : Bool) (P : Text → Type 0) {t : Tree} → Headed l t → view_got s o ≡ then (byte 60 l) (λ _ m. name m)
    → MatchOption o (b ≡ false) P → ((n : Text) → P n → b ≡ same x (part s n.start n.end)) → b ≡ same x t.named
by_name s l x (Some n) b P h e k f = f n k ∙ ap (same x) (head_name h e)
by_name s l x None b P h e k f = not_headed h e

pub returns : goal.returns
returns c = λ d t m e. by_name c.args.s.now _ c.args.x.now c.head.result c.is_some_and.result _ (headed d _ t m e) c.head.ensures.0 c.is_some_and.ensures (λ n p. search rules)
