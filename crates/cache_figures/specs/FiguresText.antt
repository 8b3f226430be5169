-- The figures of a cache in Prometheus' text format: of each its help, its kind, and its values.
use Rattle.std.specs.Prelude.{ℕ, Bool, true, false, List, [], ◌∷◌, ◌++◌, Option, None, Some, codes, decimal}
use Rattle.std.specs.List.{flat_map}
use Rattle.prometheus_text.specs.MetricText.{escaped_in_help, escaped_in_value, name_text, word_of}
use Rattle.prometheus_text.specs.declared.metric.MetricKind.{MetricKind}
use Rattle.prometheus_text.specs.declared.metric.MetricKind.TheVariants.{Counter, Gauge}
use Rattle.cache_figures.specs.declared.figure.Figure.{Figure}
use Rattle.cache_figures.specs.declared.figure.Figure.TheVariants.{Vrps, Clients, Routers, Serial, Withdrawn, Session, Written, Read, Rereads, Octets, Lost, Closed, Turns}
use Rattle.cache_figures.specs.declared.figures.CacheFigures.{CacheFigures}
use Rattle.cache_figures.specs.declared.figures.RunFigures.{RunFigures}

-- the names, as StayRTR has them where figures are the same
abbrev pub name_of : Figure → List ℕ
name_of Vrps = codes "rpki_vrps"
name_of Clients = codes "rtr_clients"
name_of Routers = codes "kenyodla_routers"
name_of Serial = codes "kenyodla_serial"
name_of Withdrawn = codes "kenyodla_list_withdrawn"
name_of Session = codes "kenyodla_session_id"
name_of Written = codes "kenyodla_list_written_seconds"
name_of Read = codes "kenyodla_list_read_seconds"
name_of Rereads = codes "kenyodla_rereads_total"
name_of Octets = codes "kenyodla_octets_total"
name_of Lost = codes "kenyodla_connections_lost_total"
name_of Closed = codes "kenyodla_connections_closed_total"
name_of Turns = codes "kenyodla_turns_total"

abbrev pub help_of : Figure → List ℕ
help_of Vrps = codes "Payloads that are served."
help_of Clients = codes "Routers that are connected."
help_of Routers = codes "Routers by the list that was handed out whole for each last."
help_of Serial = codes "Serial that is served."
help_of Withdrawn = codes "Whether the list is withdrawn since it is stale."
help_of Session = codes "Session id of this run."
help_of Written = codes "Seconds since the list was written, by its metadata or else its file."
help_of Read = codes "Seconds since the list that is served was in its file."
help_of Rereads = codes "How often the list was due or asked for behind the first by what each led to."
help_of Octets = codes "Octets that came from routers and that went to them."
help_of Lost = codes "Connections of routers that are over."
help_of Closed = codes "Connections of routers that were closed from here."
help_of Turns = codes "Turns that were taken."

abbrev pub kind_of : Figure → MetricKind
kind_of Vrps = Gauge
kind_of Clients = Gauge
kind_of Routers = Gauge
kind_of Serial = Gauge
kind_of Withdrawn = Gauge
kind_of Session = Gauge
kind_of Written = Gauge
kind_of Read = Gauge
kind_of Rereads = Counter
kind_of Octets = Counter
kind_of Lost = Counter
kind_of Closed = Counter
kind_of Turns = Counter

-- the help and the kind of a figure
unfoldable pub head_text : Figure → List ℕ
head_text figure =
    (codes "# HELP " ++ name_text (name_of figure) ++ codes " " ++ escaped_in_help (help_of figure) ++ codes "\n")
    ++ (codes "# TYPE " ++ name_text (name_of figure) ++ codes " " ++ word_of (kind_of figure) ++ codes "\n")

-- its one value
unfoldable pub figure_text : Figure → ℕ → List ℕ
figure_text figure value = head_text figure ++ (name_text (name_of figure) ++ codes " " ++ decimal value ++ codes "\n")

abbrev pub if_told_text : Figure → Option ℕ → List ℕ
if_told_text figure None = []
if_told_text figure (Some value) = figure_text figure value

-- its value for a word of a label
unfoldable pub value_text : Figure → List ℕ → List ℕ → ℕ → List ℕ
value_text figure label word value =
    name_text (name_of figure) ++ (codes "{" ++ (name_text label ++ codes "=\"" ++ escaped_in_value word ++ codes "\"") ++ codes "}") ++ codes " " ++ decimal value ++ codes "\n"

-- those for all words
abbrev pub values_text : Figure → List ℕ → List (List ℕ × ℕ) → List ℕ
values_text figure label values = flat_map (λ told. value_text figure label told.0 told.1) values

abbrev pub labelled_text : Figure → List ℕ → List (List ℕ × ℕ) → List ℕ
labelled_text figure label values = head_text figure ++ values_text figure label values

-- what is served
unfoldable pub served_text : CacheFigures → RunFigures → List ℕ
served_text cache run =
    labelled_text Vrps (codes "ip_version") ((codes "ipv4", cache.payloads) ∷ []) ++ figure_text Serial cache.serial ++ figure_text Session run.session

-- 1 where it is so
abbrev pub as_number : Bool → ℕ
as_number true = 1
as_number false = 0

-- the list that it came from
unfoldable pub list_text : CacheFigures → RunFigures → Option ℕ → List ℕ
list_text cache run age =
    if_told_text Written age ++ figure_text Read cache.read ++ figure_text Withdrawn (as_number cache.withdrawn)
    ++ labelled_text Rereads (codes "outcome") ((codes "taken", run.taken) ∷ (codes "same", run.same) ∷ (codes "unchanged", run.unchanged) ∷ (codes "refused", run.refused) ∷ [])

-- the routers
unfoldable pub routers_text : CacheFigures → List ℕ
routers_text cache =
    figure_text Clients cache.routers
    ++ labelled_text Routers (codes "state") ((codes "current", cache.current) ∷ (codes "behind", cache.behind) ∷ (codes "without", cache.without) ∷ [])

-- what the run has counted
unfoldable pub run_text : CacheFigures → RunFigures → List ℕ
run_text cache run =
    labelled_text Octets (codes "direction") ((codes "in", cache.octets_in) ∷ (codes "out", cache.octets_out) ∷ []) ++ figure_text Lost cache.lost ++ figure_text Closed cache.closed
    ++ figure_text Turns run.turns

-- all of them
unfoldable pub figures_text : CacheFigures → RunFigures → Option ℕ → List ℕ
figures_text cache run age = served_text cache run ++ list_text cache run age ++ routers_text cache ++ run_text cache run
