pub mod ShownRoutes
