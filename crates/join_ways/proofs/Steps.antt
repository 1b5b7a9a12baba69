-- The path one step on, and the ends of the recursion over the ways.
use Rattle.std.proofs.Common.{◌≡◌, ℕ, ◌+◌, ◌<◌, ◌≤◌, Bool, true, false, cond, eqb, List, [], ◌∷◌, ◌++◌, map, length, get_or, take, drop, set, Some, None, sym, refl, ap, ◌∙◌, subst, append-nil, arith}
use Rattle.std.specs.List.{AllByRecursion}
use Rattle.std.proofs.ByRecursion.{All-append}
use Rattle.std.proofs.lemmas.List.{drop_all, take_all, take_more_set, take_more, take-take, take-set, map-append, length-map, length-take-le}
use Rattle.alphabet.specs.Model.{Model}
use Rattle.join_laws.specs.Lists.{on_some}
use Rattle.join_laws.specs.Lines.{Line}
use Rattle.join_laws.specs.Ways.{followed_by, fronted, ways}
use Rattle.join_ways.specs.declared.write.Span.{Span}
use Rattle.join_ways.specs.Paths.{within, SoundSpan, along, raw_line, whole_line}
use Rattle.join_ways.proofs.Followed.{along_push}
use Rattle.join_ways.proofs.Goings.{by_line}

module _ {G T : Type 0} (m : Model G T) where
  -- a line of another state, or one that leaves no symbol, makes no way
  module _ (K : List (Line G T)) (ts : List T) (t : T) (q : ℕ) (g : G) (l : Line G T) where
    pub by_other : eqb l.state q ≡ false → by_line m K ts t q g l ≡ []
    by_other e = rw e

    pub by_empty : m.narrowed g t l.guard ≡ None → by_line m K ts t q g l ≡ []
    by_empty e = rw e (go (eqb l.state q))
      where
        go : (b : Bool) → cond b (on_some {X = G} None (λ h. map (fronted m t l.outputs) (ways m K ts l.next h))) [] ≡ []
        go true = refl
        go false = refl

    pub by_some : (h : G) → eqb l.state q ≡ true → m.narrowed g t l.guard ≡ Some h → by_line m K ts t q g l ≡ map (fronted m t l.outputs) (ways m K ts l.next h)
    by_some h e f = rw (e, f)

  -- past the last term there is one way
  pub ways_done : (K : List (Line G T)) (k : ℕ) (ts : List T) (ws : List (List T)) (d q : ℕ) (g : G) → length ts ≤ d
      → map (raw_line k (along m (take d ts) ws)) (ways m K (drop d ts) q g) ≡ whole_line k (along m ts ws) q g ∷ []
  unfolding ways
  ways_done K k ts ws d q g h =
      ap (λ l. map (raw_line k (along m (take d ts) ws)) (ways m K l q g)) (drop_all d ts h)
      ∙ ap (λ o. whole_line k o q g ∷ []) (append-nil (along m (take d ts) ws) ∙ ap (λ l. along m l ws) (take_all d ts h))

  -- the path one step on
  module _ (S : List T) (ts : List T) (path path' : List Span) (d : ℕ) (p : Span) (x : T) (n : ℕ) (inside : d < length ts) (long : length ts ≤ length path') (kept : take d path' ≡ take d path) where
    spans_more : take (d + 1) (set path' d p) ≡ take d path ++ p ∷ []
    spans_more = take_more_set path' d p (omega arith) ∙ ap (λ l. l ++ p ∷ []) kept

    pub spans_sound : AllByRecursion (SoundSpan m S) (take d path) → SoundSpan m S p → AllByRecursion (SoundSpan m S) (take (d + 1) (set path' d p))
    spans_sound all here = subst (AllByRecursion (SoundSpan m S)) (sym spans_more) (All-append (SoundSpan m S) (take d path) (p ∷ []) all (here, tt))

    pub along_on : (w : List T) → within S p ≡ w
        → along m (take (d + 1) ts) (map (within S) (take (d + 1) (set path' d p))) ≡ along m (take d ts) (map (within S) (take d path)) ++ followed_by m (get_or ts d x) w
    along_on w is =
        let front : length (take d ts) ≡ length (map (within S) (take d path)) =
        length-take-le d ts (omega arith) ∙ sym (length-map (take d path) (within S) ∙ ap length (sym kept) ∙ length-take-le d path' (omega arith)) in
        ap (λ l. along m l (map (within S) (take (d + 1) (set path' d p)))) (take_more ts d x inside)
        ∙ ap (λ l. along m (take d ts ++ get_or ts d x ∷ []) (map (within S) l)) spans_more
        ∙ ap (along m (take d ts ++ get_or ts d x ∷ [])) (map-append (within S) (take d path) (p ∷ []) ∙ ap (λ v. map (within S) (take d path) ++ v ∷ []) is)
        ∙ along_push m (take d ts) (map (within S) (take d path)) (get_or ts d x) w front

    pub path_kept : (path'' : List Span) → take (d + 1) path'' ≡ take (d + 1) (set path' d p) → take d path'' ≡ take d path
    path_kept path'' e =
        sym (take-take d (d + 1) path'' (omega arith)) ∙ ap (take d) e ∙ take-take d (d + 1) (set path' d p) (omega arith) ∙ take-set path' d p ∙ kept
