pub mod Chains
pub mod LatestRoutes
pub mod PrefixRoutes
pub mod RoutesFall
