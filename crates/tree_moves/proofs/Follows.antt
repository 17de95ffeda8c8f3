-- Whether a rule does to the tags on top what its part does, by computation.
use Rattle.std.specs.Prelude.{Bool, true, false, not, ◌&&◌, ◌||◌, List, [], ◌∷◌, ◌++◌, filter, Option, Some, None, if◌then◌else◌}
use Rattle.std.specs.List.{list_all, list_any}
use Rattle.ksh_grammar.specs.declared.symbol.Place.TheVariants as place
use Rattle.ksh_syntax.specs.declared.kind.Mode.{Mode}
use Rattle.ksh_syntax.specs.declared.kind.Kind.{Kind}
use Rattle.ksh_syntax.specs.declared.kind.Kind.TheVariants as kind
use Rattle.ksh_syntax.specs.declared.part.Terminal.{Terminal}
use Rattle.ksh_syntax.specs.declared.part.Terminal.TheVariants.{One, Any}
use Rattle.ksh_syntax.specs.declared.part.Part as declared
use Rattle.ksh_syntax.specs.declared.part.Part.TheVariants as part
use Rattle.ksh_syntax.specs.Rules.{Rule, rules}
use Rattle.ksh_syntax.specs.Sentences.{Took, Marked, Token}
use Rattle.ksh_syntax.specs.Takes.{are_in, same_kind}
use Rattle.ksh_syntax.proofs.Everything.{kinds}
use Rattle.tree_moves.specs.Tags.{Tag, same_tag}
use Rattle.tree_moves.specs.Moves.{Fit, Over, Another, Few, fit}
use Rattle.tree_moves.specs.Turns.{Role, Own, Opens, Next, Last, Ends, is_lexed, role_of}
use Rattle.tree_moves.specs.HereWords.{Text, Still, end_step, is_still, same_bool, text_step}
use Rattle.tree_moves.proofs.Effects.{Effect, effects}
use Rattle.tree_moves.proofs.Bounds.{Bounds, Any, Plain, Closes, bounds, front}

abbrev pub mode_in : Terminal → Mode
mode_in (One m k) = m
mode_in (Any m ws) = m

abbrev pub kinds_in : Terminal → List Kind
kinds_in (One m k) = k ∷ []
kinds_in (Any m ws) = filter (are_in ws) kinds

abbrev pub same_tags : List Tag → List Tag → Bool
same_tags [] [] = true
same_tags [] (u ∷ us) = false
same_tags (t ∷ ts) [] = false
same_tags (t ∷ ts) (u ∷ us) = same_tag t u && same_tags ts us

abbrev pub same_bools : List Bool → List Bool → Bool
same_bools [] [] = true
same_bools [] (c ∷ cs) = false
same_bools (b ∷ bs) [] = false
same_bools (b ∷ bs) (c ∷ cs) = same_bool b c && same_bools bs cs

abbrev pub then_all : (Text → Bool) → Option Text → Bool
then_all next None = false
then_all next (Some x) = next x

abbrev pub has_opening : List Bool → Bool
has_opening [] = false
has_opening (o ∷ os) = true

-- what was opened last is known, where that decides something
abbrev pub is_known : Bool → Token → Text → Bool
is_known plain t x = plain || (not (same_kind t.1 kind.WordEnd) || has_opening x.1)

-- a token of its role: what comes behind it, and what comes behind bodies that it opens
abbrev pub by_role : Bool → Role → (Text → Bool) → (Text → Bool) → Token → Text → Bool
by_role plain Own next behind t x = if is_lexed t then is_known plain t x && then_all next (text_step (Took t) x) else true
by_role plain Opens next behind t x = is_known plain t x && then_all behind (text_step (Took t) x)
by_role plain Next next behind t x = false
by_role plain Last next behind t x = false
by_role plain Ends next behind t x = is_known plain t x && then_all next (end_step t x)

abbrev pub in_effect : Fit → List (List Tag) → (List Tag → Bool) → Bool → Bool
in_effect (Over rest) behinds next otherwise = list_all (λ ts. next (ts ++ rest)) behinds
in_effect Another behinds next otherwise = otherwise
in_effect Few behinds next otherwise = otherwise

abbrev pub by_effects : List Effect → (List Tag → Bool) → List Tag → Bool
by_effects [] next ts = false
by_effects (e ∷ es) next ts = in_effect (fit e.0 ts) e.1 next (by_effects es next ts)

-- what is open behind a part that may begin there
abbrev pub open_behind : Bounds → Bool → List Bool → Option (List Bool)
open_behind Any plain os = Some os
open_behind Plain plain [] = if plain then Some [] else None
open_behind Plain plain (true ∷ os) = None
open_behind Plain plain (false ∷ os) = Some (false ∷ os)
open_behind Closes plain [] = None
open_behind Closes plain (true ∷ os) = None
open_behind Closes plain (false ∷ os) = Some os

abbrev pub by_openings : List Effect → (Text → Bool) → List Tag → Option (List Bool) → Bool
by_openings es next ts None = false
by_openings es next ts (Some os) = by_effects es (λ us. next (us, os, Still)) ts

abbrev pub by_part : Bool → declared.Part → (Text → Bool) → Text → Bool
by_part plain p next x = is_still x.2 && by_openings (effects p) next x.0 (open_behind (bounds p) plain x.1)

abbrev pub is_bodies : declared.Part → Bool
is_bodies part.BodyTexts = true
is_bodies _ = false

abbrev pub ends_so : List (List Tag) → Text → Bool
ends_so behinds x = is_still x.2 && (same_bools x.1 [] && list_any (same_tags x.0) behinds)

abbrev mutual
  -- all that the rule reads leads from these tags to some of those, and behind it is open what was open outside
  pub follows : Bool → Rule → List (List Tag) → Text → Bool
  follows plain [] behinds x = ends_so behinds x
  follows plain (place.Token c ∷ rule) behinds x = list_all (λ k. by_role plain (role_of k) (follows plain rule behinds) (follows_bodies plain rule behinds) (mode_in c, k) x) (kinds_in c)
  follows plain (place.Part p ∷ rule) behinds x = by_part plain p (follows plain rule behinds) x
  follows plain (place.Inside p ∷ rule) behinds x = by_part plain p (follows plain rule behinds) x
  follows plain (place.Make m ∷ rule) behinds x = then_all (follows plain rule behinds) (text_step (Marked m) x)

  -- the same where bodies come first
  pub follows_bodies : Bool → Rule → List (List Tag) → Text → Bool
  follows_bodies plain [] behinds x = false
  follows_bodies plain (place.Token c ∷ rule) behinds x = false
  follows_bodies plain (place.Part p ∷ rule) behinds x = is_bodies p && follows plain rule behinds x
  follows_bodies plain (place.Inside p ∷ rule) behinds x = false
  follows_bodies plain (place.Make m ∷ rule) behinds x = false

abbrev pub is_plain : Bounds → Bool
is_plain Any = false
is_plain Plain = true
is_plain Closes = false

-- each rule of the part does what the part does
abbrev pub is_followed : declared.Part → Bool
is_followed p = list_all (λ e. list_all (λ rule. follows (is_plain (bounds p)) rule e.1 (e.0, front (bounds p), Still)) (rules p)) (effects p)
