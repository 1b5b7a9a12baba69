-- One turn of writing a term followed by others, and of writing along a path.
use Rattle.std.proofs.Common.{◌≡◌, ℕ, ◌+◌, ◌<◌, ◌≤◌, List, [], ◌∷◌, ◌++◌, length, get_or, take, drop, Option, sym, refl, ap, ◌∙◌, append_assoc, append-nil, arith}
use Rattle.std.specs.Option.{option_to_list}
use Rattle.std.proofs.lemmas.List.{take_more, length-append, length-take, take-append-drop}
use Rattle.alphabet.specs.Model.{Model}
use Rattle.join_laws.specs.Ways.{followed_by}
use Rattle.join_ways.specs.Paths.{along}

module _ {G T : Type 0} (m : Model G T) where
  followed_append : (t : T) (us vs : List T) → followed_by m t (us ++ vs) ≡ followed_by m t us ++ followed_by m t vs
  followed_append t [] vs = refl
  followed_append t (u ∷ us) vs =
      ap (λ l. option_to_list (m.followed t u) ++ l) (followed_append t us vs) ∙ sym (append_assoc (option_to_list (m.followed t u)) (followed_by m t us) (followed_by m t vs))

  -- one term more
  pub followed_more : (t : T) (us : List T) (i : ℕ) (u : T) (o : Option T) → i < length us → u ≡ get_or us i u → m.followed t u ≡ o
      → followed_by m t (take (i + 1) us) ≡ followed_by m t (take i us) ++ option_to_list o
  followed_more t us i u o h read e =
      ap (followed_by m t) (take_more us i u h) ∙ followed_append t (take i us) (get_or us i u ∷ [])
      ∙ ap (λ x. followed_by m t (take i us) ++ (option_to_list (m.followed t x) ++ [])) (sym read)
      ∙ ap (λ x. followed_by m t (take i us) ++ (option_to_list x ++ [])) e
      ∙ ap (λ x. followed_by m t (take i us) ++ x) (append-nil (option_to_list o))

  -- no more written than there are, and of a front no more than of all
  pub followed_front : (t : T) (us : List T) (i : ℕ) → length (followed_by m t (take i us)) ≤ length (followed_by m t us)
  followed_front t us i =
      omega (arith, ap length (sym (followed_append t (take i us) (drop i us)) ∙ ap (followed_by m t) (take-append-drop i us)), length-append (followed_by m t (take i us)) (followed_by m t (drop i us)))

  -- one step more along a path
  pub along_push : (ts : List T) (ws : List (List T)) (t : T) (w : List T) → length ts ≡ length ws → along m (ts ++ t ∷ []) (ws ++ w ∷ []) ≡ along m ts ws ++ followed_by m t w
  unfolding along
  along_push [] [] t w e = append-nil (followed_by m t w)
  along_push [] (v ∷ ws) t w e = absurd (omega arith)
  along_push (s ∷ ts) [] t w e = absurd (omega arith)
  along_push (s ∷ ts) (v ∷ ws) t w e =
      ap (λ l. followed_by m s v ++ l) (along_push ts ws t w (omega arith)) ∙ sym (append_assoc (followed_by m s v) (along m ts ws) (followed_by m t w))

  along_append : (ts us : List T) (vs ws : List (List T)) → length ts ≡ length vs → along m (ts ++ us) (vs ++ ws) ≡ along m ts vs ++ along m us ws
  unfolding along
  along_append [] us [] ws e = refl
  along_append [] us (v ∷ vs) ws e = absurd (omega arith)
  along_append (t ∷ ts) us [] ws e = absurd (omega arith)
  along_append (t ∷ ts) us (v ∷ vs) ws e =
      ap (λ l. followed_by m t v ++ l) (along_append ts us vs ws (omega arith)) ∙ sym (append_assoc (followed_by m t v) (along m ts vs) (along m us ws))

  pub along_front : (ts : List T) (ws : List (List T)) (i : ℕ) → length ws ≡ length ts → length (along m (take i ts) (take i ws)) ≤ length (along m ts ws)
  along_front ts ws i e =
      let k : length (take i ts) ≡ length (take i ws) = simp length-take (omega arith) in
      omega (arith, ap length (sym (along_append (take i ts) (drop i ts) (take i ws) (drop i ws) k) ∙ whole), length-append (along m (take i ts) (take i ws)) (along m (drop i ts) (drop i ws)))
    where
      whole : along m (take i ts ++ drop i ts) (take i ws ++ drop i ws) ≡ along m ts ws
      whole = ap (λ l. along m l (take i ws ++ drop i ws)) (take-append-drop i ts) ∙ ap (along m ts) (take-append-drop i ws)

  -- the step at a place of the path
  pub along_more : (ts : List T) (ws : List (List T)) (d : ℕ) (t : T) (w : List T) → length ws ≡ length ts → d < length ts → t ≡ get_or ts d t → get_or ws d w ≡ w
      → along m (take (d + 1) ts) (take (d + 1) ws) ≡ along m (take d ts) (take d ws) ++ followed_by m t w
  along_more ts ws d t w same h read is =
      let k : length (take d ts) ≡ length (take d ws) = simp length-take (omega arith) in
      ap (λ l. along m l (take (d + 1) ws)) (take_more ts d t h ∙ ap (λ x. take d ts ++ x ∷ []) (sym read))
      ∙ ap (along m (take d ts ++ t ∷ [])) (take_more ws d w (omega arith) ∙ ap (λ x. take d ws ++ x ∷ []) is)
      ∙ along_push (take d ts) (take d ws) t w k

  pub along_none : (ws : List (List T)) → along m [] ws ≡ []
  unfolding along
  along_none ws = refl
