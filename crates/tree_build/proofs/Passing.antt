-- What frames have read: what says nothing of the tree.
use Rattle.std.specs.Prelude.{◌≡◌, ℕ, true, List, [], ◌∷◌}
use Rattle.std.proofs.Common.{refl, subst}
use Rattle.ksh_syntax.specs.declared.part.Mark.{Mark}
use Rattle.tree_build.specs.Frame.{Frame}
use Rattle.tree_parts.specs.declared.sign.Sign.{Sign}
use Rattle.tree_parts.specs.declared.sign.Moment.{Moment}
use Rattle.tree_build.specs.Heard.{Lexed, Marked}
use Rattle.tree_build.specs.Tables.{is_silent_mark}
use Rattle.tree_build.specs.Places.{place_at}
use Rattle.tree_build.specs.Silent.{is_silent}
use Rattle.tree_build.specs.declared.place.Place.{Place}
use Rattle.tree_build.specs.declared.place.Place.TheVariants as place
use Rattle.tree_build.specs.Reads.{silent, silent_mark}
use Rattle.tree_build.specs.Frames.{Hears}
use Rattle.tree_build.proofs.Steps.{step_on}

pub reads_silent : (s : Sign) (b : List ℕ) (old new : List Frame) (p : Place) → p ≡ place_at old 0 → (p ≡ place.Nothing → ⊥) → is_silent s.kind p ≡ true → new ≡ old → Hears (Lexed s b) old new
reads_silent s b [] new p at there silently same = absurd (there at)
reads_silent s b (f ∷ fs) new p at there silently same = step_on (Lexed s b) f f (f ∷ fs) fs new (λ script p' q r0. silent s b f r0 (subst (λ x. is_silent s.kind x ≡ true) at silently)) refl same

pub reads_silent_mark : (k : Mark) (m : Moment) (old new : List Frame) (p : Place) → p ≡ place_at old 0 → (p ≡ place.Nothing → ⊥) → is_silent_mark k ≡ true → new ≡ old → Hears (Marked k m) old new
reads_silent_mark k m [] new p at there silently same = absurd (there at)
reads_silent_mark k m (f ∷ fs) new p at there silently same = step_on (Marked k m) f f (f ∷ fs) fs new (λ script p' q r0. silent_mark k m f r0 silently) refl same
