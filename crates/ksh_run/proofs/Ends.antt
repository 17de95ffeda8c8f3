-- How runs end.
use Rattle.std.proofs.Common.{◌≡◌, ℕ, inl, inr, List, [], Option, Some, None, refl, ◌∙◌, ap}
use Rattle.std.proofs.Common.{zero, suc, sum_by, All}
use Rattle.std.proofs.lemmas.List.Elements.{All-nil}
use Rattle.kernel_ask.specs.Seen.{Seen, more, acted, ended}
use Rattle.kernel_ask.specs.declared.ask.Answer.{Answer}
use Rattle.kernel_ask.specs.declared.ask.Answer.TheVariants.{ShellEnded}
use Rattle.kernel_ask.specs.declared.ask.Ask.{Ask}
use Rattle.kernel_ask.specs.declared.ask.Ask.TheVariants.{Asked, Begin, WaitShell}
use Rattle.kernel_ask.specs.declared.ask.Entry.{Entry}
use Rattle.kernel_ask.specs.declared.ask.Call.{Call}
use Rattle.shell_family.specs.Family.{ChildFits, FamilyTo, IsOrderly, named}
use Rattle.shell_family.specs.Told.{ForTold, ForksStart, Saw, forks_in, from, at_child, is_settled}
use Rattle.shell_family.proofs.Told.{told_weaker, from_more, saw_more, starts_more, forks_same}
use Rattle.ksh_run.specs.Top.{EndsList, IsFresh, IsRoot, why_of}
use Rattle.ksh_script.specs.declared.tree.Item.{Item}
use Rattle.shell_family.specs.Meaning.{RunTold}
use Rattle.shell_state.specs.State.{root_state}
use Rattle.shell_state.specs.declared.start.Start.{Start}
use Rattle.shell_thread.specs.declared.album.ShellEnd.{ShellEnd}
use Rattle.shell_thread.specs.declared.album.ShellStop.{ShellStop}
use Rattle.shell_thread.specs.declared.album.ShellStop.TheVariants as stop

module _ {Po A : Type 0} (sees : Po → Seen Start) where
  list_by : (v : ShellStop) (e : ShellEnd Po A) (budget : ℕ) (list : List Item) → e.stop ≡ v → (e.stop ≡ stop.Unrun → ⊥) → (e.stop ≡ stop.Before → ⊥) → (e.stop ≡ stop.Spent → e.status ≡ 123) → (e.stop ≡ stop.Memory → e.status ≡ 121)
      → RunTold (record { state = root_state budget; body = list }) (sees e.port).done e.stop e.status → EndsList sees budget list (why_of v) e.status e
  list_by stop.Meant e budget list h ran listed spent lost run = (h, refl, run)
  list_by stop.Spent e budget list h ran listed spent lost run = (spent h, h, run)
  list_by stop.Memory e budget list h ran listed spent lost run = (lost h, h, run)
  list_by stop.Unrun e budget list h ran listed spent lost run = absurd (ran h)
  list_by stop.Before e budget list h ran listed spent lost run = absurd (listed h)

  pub ends_list : (e : ShellEnd Po A) (budget : ℕ) (list : List Item) → (e.stop ≡ stop.Unrun → ⊥) → (e.stop ≡ stop.Before → ⊥) → (e.stop ≡ stop.Spent → e.status ≡ 123) → (e.stop ≡ stop.Memory → e.status ≡ 121)
      → RunTold (record { state = root_state budget; body = list }) (sees e.port).done e.stop e.status → EndsList sees budget list (why_of e.stop) e.status e
  ends_list e budget list ran listed spent lost run = list_by e.stop e budget list refl ran listed spent lost run

module _ {Po P A : Type 0} (sees : Po → Seen Start) (list : A → Option (List (ShellEnd Po A))) (faults : P → ℕ) where
  -- a shell that forked none has a family of itself alone
  family_none : (n : ℕ) (e : ShellEnd Po A) → IsOrderly (sees e.port) → (sees e.port).children ≡ [] → ForTold (list e.album) (λ ends. ends ≡ []) → FamilyTo sees list faults n e
  family_none zero e o h g = tt
  family_none (suc n) e o h g = (
    o,
    told_weaker (λ ends. ends ≡ [])
        (λ ends. ((k : ℕ) → sum_by (named k) ends ≡ at_child is_settled (sees e.port).children k) × All (λ c. ChildFits sees faults (sees e.port) c × FamilyTo sees list faults n c) ends) (list e.album)
        (λ ends none. ((λ k. rw (none, h) refl), rw none (All-nil (λ c. ChildFits sees faults (sees e.port) c × FamilyTo sees list faults n c)))) g,
  )

  -- a transcript of at most one call is in order
  called_once : (s t : Seen Start) (call : Call) (answer : Answer) → IsFresh s → t ≡ ended (acted s call answer) → IsOrderly t
  called_once s t call answer fresh is =
      let ch : t.children ≡ [] = ap (λ (z : Seen Start). z.children) is ∙ fresh.children in
      rw is (record {
        starts = starts_more s.done (Asked call) answer tt (told_weaker (λ es. es ≡ []) ForksStart s.done (λ es h. rw h tt) fresh.done);
        forks = forks_same s.done s.children s.children (Asked call) answer (λ k. refl) (λ k. refl)
            (told_weaker (λ es. es ≡ []) (λ es. (k : ℕ) → forks_in k es ≡ at_child is_settled s.children k) s.done (λ es h k. rw (h, fresh.children) refl) fresh.done);
        begins = λ k a z. absurd (unseen s.done (Begin k) a (λ q. cc) fresh.done z);
        waits = λ k v z. absurd (unseen s.done (WaitShell k) (ShellEnded v) (λ q. cc) fresh.done z);
      })
    where
      unseen : (d : Option (List (Entry Start))) (x : Ask Start) (y : Answer) → (x ≡ Asked call → ⊥) → ForTold d (λ es. es ≡ []) → Saw (more d (Asked call) answer) x y → ⊥
      unseen None x y apart h z = z
      unseen (Some es) x y apart h z =
          elim (saw_more (Some es) x (Asked call) y answer z) [ inl p ↦ rw h at p | inr e ↦ apart e.0 ]

  -- a root that wrote one line and ended
  pub refused_root : (s : Seen Start) (e : ShellEnd Po A) (call : Call) (answer : Answer) → IsFresh s → e.name ≡ [] → ForTold (list e.album) (λ ends. ends ≡ []) → sees e.port ≡ ended (acted s call answer)
      → IsRoot sees list faults (from s) e
  refused_root s e call answer fresh name album port = record {
    name = name;
    over = ap (λ (z : Seen Start). z.live) port;
    port_name = ap (λ (z : Seen Start). z.name) port ∙ fresh.name;
    of = ap (λ (z : Seen Start). from z) port ∙ from_more s.origin s.done (Asked call) answer;
    family = λ n. family_none n e (called_once s (sees e.port) call answer fresh port) (ap (λ (z : Seen Start). z.children) port ∙ fresh.children) album;
  }

  -- a root that asked nothing and ended
  pub lost_root : (s : Seen Start) (e : ShellEnd Po A) → IsFresh s → e.name ≡ [] → ForTold (list e.album) (λ ends. ends ≡ []) → sees e.port ≡ ended s → IsRoot sees list faults (from s) e
  lost_root s e fresh name album port = record {
    name = name;
    over = ap (λ (z : Seen Start). z.live) port;
    port_name = ap (λ (z : Seen Start). z.name) port ∙ fresh.name;
    of = ap (λ (z : Seen Start). from z) port;
    family = λ n. family_none n e (rw port silent) (ap (λ (z : Seen Start). z.children) port ∙ fresh.children) album;
  }
    where
      unseen : (d : Option (List (Entry Start))) (x : Ask Start) (y : Answer) → ForTold d (λ es. es ≡ []) → Saw d x y → ⊥
      unseen None x y h z = z
      unseen (Some es) x y h z = rw h at z

      silent : IsOrderly (ended s)
      silent = record {
        starts = told_weaker (λ es. es ≡ []) ForksStart s.done (λ es h. rw h tt) fresh.done;
        forks = told_weaker (λ es. es ≡ []) (λ es. (k : ℕ) → forks_in k es ≡ at_child is_settled s.children k) s.done (λ es h k. rw (h, fresh.children) refl) fresh.done;
        begins = λ k a z. absurd (unseen s.done (Begin k) a fresh.done z);
        waits = λ k v z. absurd (unseen s.done (WaitShell k) (ShellEnded v) fresh.done z);
      }
