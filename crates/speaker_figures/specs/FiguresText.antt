-- The figures of a speaker in Prometheus' text format: of each its help, its kind, and its values.
use Rattle.std.specs.Prelude.{ℕ, List, [], ◌∷◌, ◌++◌, codes, decimal}
use Rattle.std.specs.List.{flat_map}
use Rattle.prometheus_text.specs.MetricText.{escaped_in_help, escaped_in_value, name_text, word_of}
use Rattle.prometheus_text.specs.declared.metric.MetricKind.{MetricKind}
use Rattle.prometheus_text.specs.declared.metric.MetricKind.TheVariants.{Counter, Gauge}
use Rattle.speaker_figures.specs.declared.figure.Figure.{Figure}
use Rattle.speaker_figures.specs.declared.figure.Figure.TheVariants.{Sessions, Routes, Payloads, CacheSession, Received, Sent, Octets, Lost, Closed, Turns}
use Rattle.speaker_figures.specs.declared.figures.CacheStates.{CacheStates}
use Rattle.speaker_figures.specs.declared.figures.SessionStates.{SessionStates}
use Rattle.speaker_figures.specs.declared.figures.SpeakerFigures.{SpeakerFigures}
use Rattle.speaker_figures.specs.declared.notices.Notices.{Notices}

abbrev pub name_of : Figure → List ℕ
name_of Sessions = codes "kenyodla_sessions"
name_of Routes = codes "kenyodla_best_routes"
name_of Payloads = codes "kenyodla_payloads"
name_of CacheSession = codes "kenyodla_cache_session"
name_of Received = codes "kenyodla_notifications_received_total"
name_of Sent = codes "kenyodla_notifications_sent_total"
name_of Octets = codes "kenyodla_octets_total"
name_of Lost = codes "kenyodla_connections_lost_total"
name_of Closed = codes "kenyodla_connections_closed_total"
name_of Turns = codes "kenyodla_turns_total"

abbrev pub help_of : Figure → List ℕ
help_of Sessions = codes "Sessions of peers by their state."
help_of Routes = codes "Prefixes with a best route, as they were counted last."
help_of Payloads = codes "Payloads in force, as they were counted last."
help_of CacheSession = codes "1 for the state of the session with the cache."
help_of Received = codes "NOTIFICATIONs that came from peers by their error code."
help_of Sent = codes "NOTIFICATIONs that went to peers by their error code."
help_of Octets = codes "Octets that came and that went."
help_of Lost = codes "Connections, and attempts at one, that are over."
help_of Closed = codes "Connections that were closed from here."
help_of Turns = codes "Turns that were taken."

abbrev pub kind_of : Figure → MetricKind
kind_of Sessions = Gauge
kind_of Routes = Gauge
kind_of Payloads = Gauge
kind_of CacheSession = Gauge
kind_of Received = Counter
kind_of Sent = Counter
kind_of Octets = Counter
kind_of Lost = Counter
kind_of Closed = Counter
kind_of Turns = Counter

-- the help and the kind of a figure
unfoldable pub head_text : Figure → List ℕ
head_text figure =
    (codes "# HELP " ++ name_text (name_of figure) ++ codes " " ++ escaped_in_help (help_of figure) ++ codes "\n")
    ++ (codes "# TYPE " ++ name_text (name_of figure) ++ codes " " ++ word_of (kind_of figure) ++ codes "\n")

-- its one value
unfoldable pub figure_text : Figure → ℕ → List ℕ
figure_text figure value = head_text figure ++ (name_text (name_of figure) ++ codes " " ++ decimal value ++ codes "\n")

-- its value for a word of a label
unfoldable pub value_text : Figure → List ℕ → List ℕ → ℕ → List ℕ
value_text figure label word value =
    name_text (name_of figure) ++ (codes "{" ++ (name_text label ++ codes "=\"" ++ escaped_in_value word ++ codes "\"") ++ codes "}") ++ codes " " ++ decimal value ++ codes "\n"

-- those for all words
abbrev pub values_text : Figure → List ℕ → List (List ℕ × ℕ) → List ℕ
values_text figure label values = flat_map (λ told. value_text figure label told.0 told.1) values

abbrev pub labelled_text : Figure → List ℕ → List (List ℕ × ℕ) → List ℕ
labelled_text figure label values = head_text figure ++ values_text figure label values

-- the sessions of peers that have no connection
unfoldable pub connecting_text : SessionStates → List ℕ
connecting_text sessions = labelled_text Sessions (codes "state") ((codes "Idle", sessions.idle) ∷ (codes "Connect", sessions.connect) ∷ (codes "Active", sessions.active) ∷ [])

-- and of those that have one
unfoldable pub connected_text : SessionStates → List ℕ
connected_text sessions = values_text Sessions (codes "state") ((codes "OpenSent", sessions.open_sent) ∷ (codes "OpenConfirm", sessions.open_confirm) ∷ (codes "Established", sessions.established) ∷ [])

-- the session with the cache
unfoldable pub cache_text : CacheStates → List ℕ
cache_text cache =
    labelled_text CacheSession (codes "state") (
    (codes "Off", cache.off) ∷ (codes "Opening", cache.opening) ∷ (codes "Asked", cache.asked) ∷ (codes "Loading", cache.loading) ∷ (codes "Synced", cache.synced) ∷ (codes "Wait", cache.wait) ∷ []
    )

-- the NOTIFICATIONs of one direction
unfoldable pub notices_text : Figure → Notices → List ℕ
notices_text figure notices =
    labelled_text figure (codes "code") (
    (codes "1", notices.header) ∷ (codes "2", notices.open_message) ∷ (codes "3", notices.update) ∷ (codes "4", notices.hold_timer) ∷ (codes "5", notices.state_machine) ∷ (codes "6", notices.cease)
    ∷ (codes "other", notices.other) ∷ []
    )

-- what the run has counted besides
unfoldable pub run_text : SpeakerFigures → List ℕ
run_text figures =
    labelled_text Octets (codes "direction") ((codes "in", figures.octets_in) ∷ (codes "out", figures.octets_out) ∷ []) ++ figure_text Lost figures.lost ++ figure_text Closed figures.closed
    ++ figure_text Turns figures.turns

-- all of them
unfoldable pub figures_text : SpeakerFigures → List ℕ
figures_text figures =
    connecting_text figures.sessions ++ connected_text figures.sessions ++ figure_text Routes figures.routes ++ figure_text Payloads figures.payloads ++ cache_text figures.cache ++ notices_text Received figures.received
    ++ notices_text Sent figures.sent ++ run_text figures
