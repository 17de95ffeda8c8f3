-- What frames have read of events.
use Rattle.std.specs.Prelude.{◌≡◌, ℕ, true, false, List, ◌∷◌, Result, Ok, Err, if◌then◌else◌}
use Rattle.std.proofs.Common.{sym, subst}
use Rattle.ksh_scan.specs.Seeing.{slice}
use Rattle.ksh_syntax.specs.declared.part.Mark.{Mark}
use Rattle.script_notes.specs.declared.cursor.Event.TheVariants as event
use Rattle.tree_build.specs.Frame.{Frame}
use Rattle.tree_build.specs.declared.unbuilt.Unbuilt.{Unbuilt}
use Rattle.tree_build.specs.Frames.{Grows, GrowsIn, Stands}
use Rattle.tree_build.specs.Heard.{BodyBegins, BodyEnds, Lexed, Marked}
use Rattle.tree_parts.specs.declared.sign.Moment.{Moment}
use Rattle.tree_parts.specs.declared.sign.Sign.{Sign}
use Rattle.ksh_parser.specs.Heard.{is_end}
use Rattle.ksh_parser.specs.Tree.{Follows}

-- the end of the script
pub ends : {A : Type 0} (script : List ℕ) (s : Sign) (a : A) (old new : List Frame) → is_end s.kind ≡ true → new ≡ old → (let r : Result A Unbuilt = Ok a in Follows script (event.Token s) old new r)
ends script s a old new is_end_token same = λ from to stands.
    subst (λ fs. Stands script from fs to) (sym same) (subst (λ b. Stands script from old (if b then to else Lexed s (slice script s.from s.to) ∷ to)) is_end_token stands)

-- another token
pub hears : {A : Type 0} (script : List ℕ) (s : Sign) (bytes : List ℕ) (old new : List Frame) (r : Result A Unbuilt) → is_end s.kind ≡ false → bytes ≡ slice script s.from s.to
    → GrowsIn script (Lexed s bytes) old new r → Follows script (event.Token s) old new r
hears script s bytes old new (Ok a) not_end same grows = λ from to stands.
    grows from to (subst (λ bs. Stands script from old (Lexed s bs ∷ to)) (sym same) (subst (λ b. Stands script from old (if b then to else Lexed s (slice script s.from s.to) ∷ to)) not_end stands))
hears script s bytes old new (Err e) not_end same grows = grows

pub hears_mark : {A : Type 0} (script : List ℕ) (k : Mark) (m : Moment) (old new : List Frame) (r : Result A Unbuilt) → GrowsIn script (Marked k m) old new r → Follows script (event.Mark k m) old new r
hears_mark script k m old new (Ok a) grows = λ from to stands. grows from to stands
hears_mark script k m old new (Err e) grows = grows

pub begins : {A : Type 0} (script : List ℕ) (old new : List Frame) (r : Result A Unbuilt) → Grows BodyBegins old new r → Follows script event.BodyBegins old new r
begins script old new (Ok a) grows = λ from to stands. grows script from to stands
begins script old new (Err e) grows = grows

pub ends_body : {A : Type 0} (script : List ℕ) (old new : List Frame) (r : Result A Unbuilt) → Grows BodyEnds old new r → Follows script event.BodyEnds old new r
ends_body script old new (Ok a) grows = λ from to stands. grows script from to stands
ends_body script old new (Err e) grows = grows
