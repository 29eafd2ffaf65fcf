pub mod OpenedViews
