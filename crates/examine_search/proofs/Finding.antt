-- What the search has found, in the model's terms.
use mathlib.Core.Path.{◌≡◌, refl, sym, subst}
use mathlib.Core.Logic.{inl}
use mathlib.Core.List.{List}
use mathlib.Core.Bool.{Bool, true, false, true≢false}
use Prim.Native.Nat.{ℕ, ◌<◌}
use native.Mathlib.Omega.{arith}
use Rattle.basics.specs.Pick.{pick}
use Rattle.layout.specs.declared.Geometry.{Geometry}
use Rattle.layout.specs.Mem.{Mem}
use Rattle.theory.specs.Reach.{Reach, root, WhiteEdge}
use Rattle.theory.proofs.Graph.{reach_map}
use Rattle.model.specs.Records.{pointer_count}
use Rattle.model.specs.Reaching.{PointsTo}
use Rattle.examine_search.proofs.Covering.{is_entered}
use Rattle.examine_search.specs.declared.Edges.{Edges}
use Rattle.examine_search.specs.declared.Edges.TheVariants.{All, Unentered}
use Rattle.examine_search.specs.Graph.{Follows, graph_of}
use Rattle.examine_search.specs.Scratch.{Searched}
use Rattle.examine_search.specs.Found.{Finds}

module _ (g : Geometry) (m : Mem) where
  -- edges said otherwise
  module _ (e : Edges) (Root : ℕ → Type 0) (E : ℕ → ℕ → Type 0) (to : (x y : ℕ) → Follows e g m x y → E x y) (from : (x y : ℕ) → E x y → Follows e g m x y) where
    read : {x : ℕ} → Reach Root (Follows e g m) x → Reach Root E x
    read p = reach_map (λ x q. root q) (λ x y r q. inl (to x y q)) p

    unread : {x : ℕ} → Reach Root E x → Reach Root (Follows e g m) x
    unread p = reach_map (λ x q. root q) (λ x y r q. inl (from x y q)) p

    finds : (r : Bool) (after : List ℕ) → Searched (graph_of e g m Root) r after → Finds g m (Reach Root E) r after
    finds true after s = record {
      good = λ q. record {
        passes = λ at p. (s.reached at (unread p)).0;
        found = λ at p. (s.reached at (unread p)).1;
        only = λ at ok b. read (s.only at ok b);
        records = s.bits;
      };
      bad = λ q. absurd (true≢false q);
    }
    finds false after s = record {
      good = λ q. absurd (true≢false (sym q));
      bad = λ q. record { at = s.node; member = read s.named; fails = s.fails };
    }

  pub finds_all : (Root : ℕ → Type 0) (r : Bool) (after : List ℕ) → Searched (graph_of All g m Root) r after → Finds g m (Reach Root (PointsTo m)) r after
  finds_all Root =
      finds All Root (PointsTo m)
      (λ x y q. record { field = q.index; within = q.within; names = q.names })
      (λ x y q. record { index = q.field; within = q.within; names = q.names })

  unentered_to : (x y : ℕ) → Follows Unentered g m x y → WhiteEdge (is_entered g m) (PointsTo m) x y
  unentered_to x y q = go (is_entered g m x) refl q.within
    where
      go : (b : Bool) → is_entered g m x ≡ b → q.index < pick b 0 (pointer_count m x) → WhiteEdge (is_entered g m) (PointsTo m) x y
      go true e l = absurd (omega arith)
      go false e l = (e, record { field = q.index; within = l; names = q.names })

  unentered_from : (x y : ℕ) → WhiteEdge (is_entered g m) (PointsTo m) x y → Follows Unentered g m x y
  unentered_from x y q = record {
    index = q.1.field;
    within = subst (λ (b : Bool). q.1.field < pick b 0 (pointer_count m x)) (sym q.0) q.1.within;
    names = q.1.names;
  }

  pub finds_unentered : (Root : ℕ → Type 0) (r : Bool) (after : List ℕ) → Searched (graph_of Unentered g m Root) r after → Finds g m (Reach Root (WhiteEdge (is_entered g m) (PointsTo m))) r after
  finds_unentered Root = finds Unentered Root (WhiteEdge (is_entered g m) (PointsTo m)) unentered_to unentered_from
